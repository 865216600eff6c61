-- `plane_calls::yes` meets its contract: each answer by the test that leads to it.
use Rattle.std.proofs.Common.{◌≡◌, ◌∙◌, Bool, true, false, refl}
use mir.Val.{bool_byte}
use Rattle.plane_calls.specs.Plane.{bit}
use Rattle.plane_calls.proofs.yes.Goals as goal

as_bit : (b : Bool) → bool_byte b ≡ bit b
unfolding bit
as_bit true = refl
as_bit false = refl

pub returns : goal.returns
returns c = c.from.ensures ∙ as_bit c.args.b
