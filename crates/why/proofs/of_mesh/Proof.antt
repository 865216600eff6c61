-- `why::of_mesh`: the slices have room, so the reason is by the other rules alone.
use mathlib.Core.Path.{refl}
use Rattle.why.specs.laws.Room.{of_mesh_lem}
use borrow.Author.Rules.{rules}
use Rattle.why.proofs.of_mesh.Statement.{statement}
use Rattle.why.proofs.of_mesh.Tie as tie

abbrev Start : tie.After-counts-1 → tie.Start
Start c = c.before.before.before.before.before.before.before.before.before

returns : tie.Need-returns
returns c =
    let at-why = c in
    of_mesh_lem _ _ (record { work = refl; vertices = refl; indexes = refl; offsets = refl; counts = refl }) (Start at-why.before.before.before.before.before.before).requires.0 _ _ at-why.why.ensures

why-requires : tie.Need-why-requires
why-requires c κs = (Start c).requires.1

pub of_mesh_spec : {M : Type 1} → statement M
of_mesh_spec =
    tie.close
    (tie.spec (λ c. search rules) (λ c. search rules) (λ c. search rules) (λ c. search rules)
    (λ c. search rules) why-requires returns)
