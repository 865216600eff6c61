-- The build has room, so its answer is by the other rules alone, and its slices hold what the lines go by.
use Rattle.std.proofs.Common.{refl, sym, ◌∙◌}
use Rattle.export.specs.laws.BuildText.{laid_of_mesh, lines_of_mesh}
use Rattle.export.proofs.of_mesh.Goals as goal

pub show-requires : goal.show-requires
show-requires c =
    let b = c.build in (
      λ z. rw (c.narrow-n.ensures, b.auto.vertices)
          (laid_of_mesh _ c.requires.0 _ _ (record { work = refl; vertices = refl; indexes = refl; offsets = refl; counts = refl }) _ _ c.requires.1 b.ensures
          b.auto.indexes (sym c.number-number.ensures ∙ z)),
      c.requires.2,
    )

pub returns : goal.returns
returns c =
    let h = c.show.ensures in (
      rw (h.first, c.narrow-n.ensures, c.number-number.ensures)
          (lines_of_mesh _ c.requires.0 _ _ (record { work = refl; vertices = refl; indexes = refl; offsets = refl; counts = refl }) _ _ c.requires.1 c.build.ensures),
      h.within,
    )
