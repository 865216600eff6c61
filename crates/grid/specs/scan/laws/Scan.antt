-- What the two tests answer.
use Rattle.std.specs.Prelude.{◌≡◌, Bool, true, false, not}
use Rattle.std.proofs.Common.{sym, ◌∙◌}
use Rattle.base.specs.common.Decide.{Says}
use Rattle.grid.specs.laws.Machine.{differ}

pub says_left : (b left : Bool) → b ≡ left → Says b (left ≡ true)
says_left true left q = sym q
says_left false left q = λ h. differ (sym (q ∙ h))

-- "not inside, if P"
pub says_outside : {P : Type 0} (b inside : Bool) → P → b ≡ inside → Says (not b) (P → inside ≡ false)
says_outside true inside p q = λ h. differ (q ∙ h p)
says_outside false inside p q = λ _. sym q
