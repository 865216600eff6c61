-- The build has room, so its answer is by the other rules alone, and of its slices the used parts are what was built.
use Rattle.std.proofs.Common.{refl, sym, ◌∙◌, arith}
use Rattle.audit.specs.laws.BuildText.{cut_of_mesh, lines_of_mesh}
use Rattle.audit.proofs.of_mesh.Goals as goal

pub show-requires : goal.show-requires
show-requires c =
    let b = c.build in (
      λ z. cut_of_mesh _ c.requires.0 _ _ (record { work = refl; vertices = refl; indexes = refl; offsets = refl; counts = refl }) _ _ c.requires.1 b.ensures
          b.auto.vertices b.auto.indexes (sym c.number-number.ensures ∙ z),
      omega (arith, b.auto.counts),
      c.requires.2,
    )

pub returns : goal.returns
returns c =
    let h = c.show.ensures in (
      rw (h.first, c.number-number.ensures)
          (lines_of_mesh _ c.requires.0 _ _ (record { work = refl; vertices = refl; indexes = refl; offsets = refl; counts = refl }) _ _ c.requires.1 c.build.ensures),
      h.within,
    )
