-- Below the length the coordinate as a float, which is exact; past it +0.
use mathlib.Core.Path.{ap, ◌∙◌}
use borrow.Author.Rules.{rules, sfits_of}
use mir.Syntax.{w32}
use mir.ValLaws.{to_z-of_z}
use Rattle.grid.specs.floats.Sites.{as_float}
use Rattle.grid.specs.floats.laws.Filled.{float_at, none_at}
use Rattle.grid.proofs.floats.float_at.Statement.{statement}
use Rattle.grid.proofs.floats.float_at.Tie as tie

returns : tie.Need-returns-then-i-grid
returns c =
    let x = c.coordinate in
    ap as_float (to_z-of_z w32 x.result (sfits_of x.type_inv) ∙ x.ensures) ∙ float_at c.args.grid.now _ c.if-i-grid.true

returns-2 : tie.Need-returns
returns-2 c = none_at c.args.grid.now _ c.if-i-grid.false

pub float_at_spec : {M : Type 1} → statement M
float_at_spec = tie.close (tie.spec (λ c κs. search rules) (λ c. search rules) returns returns-2)
