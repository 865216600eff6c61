-- The test as a number.
use mathlib.Core.Path.{ap, ◌∙◌}
use Rattle.plane_calls.specs.Plane.{bit}
use Rattle.plane_calls.proofs.abs_diff_eq.Statement.{statement}
use Rattle.plane_calls.proofs.abs_diff_eq.Tie as tie

returns : tie.Need-returns
returns c = c.yes.ensures ∙ ap bit c.abs_diff_eq.ensures

pub abs_diff_eq_spec : {M : Type 1} → statement M
abs_diff_eq_spec = tie.close (tie.spec (λ c κs. tt) (λ c κs. tt) returns)
