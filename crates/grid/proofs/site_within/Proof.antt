-- Both coordinates are tried; what the machine reads back is what was read.
use mathlib.Core.Path.{subst, ◌∙◌}
use borrow.Author.Rules.{rules, sfits_of}
use mir.Syntax.{w32}
use mir.ValLaws.{to_z-of_z}
use Rattle.base.specs.common.Decide.{Says}
use Rattle.grid.specs.Plane.{Within}
use Rattle.grid.specs.laws.Machine.{both}
use Rattle.grid.proofs.site_within.Statement.{statement}
use Rattle.grid.proofs.site_within.Tie as tie

returns : tie.Need-returns
returns c =
    let x = c.coordinate in
    let y = c.coordinate-2 in
    both c.within.result c.within-2.result _ _
    (subst (λ z. Says c.within.result (Within z)) (to_z-of_z w32 x.result (sfits_of x.type_inv) ∙ x.ensures) c.within.ensures)
    (subst (λ z. Says c.within-2.result (Within z)) (to_z-of_z w32 y.result (sfits_of y.type_inv) ∙ y.ensures) c.within-2.ensures)

pub site_within_spec : {M : Type 1} → statement M
site_within_spec =
    tie.close
    (tie.spec (λ c. search rules) (λ c κs. search rules) (λ c κs. search rules) (λ c. search rules) (λ c. search rules) (λ c κs. search rules)
    (λ c κs. search rules) returns)
