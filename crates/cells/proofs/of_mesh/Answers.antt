-- The build has room, so its answer is by the other rules alone, and its slices hold what the listing goes by.
use Rattle.std.proofs.Common.{refl, sym, ◌∙◌, arith}
use Rattle.cells.specs.laws.BuildText.{laid_of_mesh, listing_of_mesh}
use Rattle.cells.proofs.of_mesh.Goals as goal

pub show-requires : goal.show-requires
show-requires c =
    let b = c.build in (
      λ z. rw c.narrow-n.ensures (laid_of_mesh _ c.requires.0 _ _ (record { work = refl; vertices = refl; indexes = refl; offsets = refl; counts = refl }) _ _ b.ensures _ c.requires.2
          b.auto.indexes (sym c.number-number.ensures ∙ z)),
      omega (arith, b.auto.counts),
      c.requires.2,
    )

pub returns : goal.returns
returns c =
    let h = c.show.ensures in (
      rw (h.first, c.narrow-n.ensures, c.narrow-t.ensures, c.number-number.ensures)
          (listing_of_mesh _ c.requires.0 _ _ (record { work = refl; vertices = refl; indexes = refl; offsets = refl; counts = refl }) _ _ c.build.ensures),
      h.within,
    )
