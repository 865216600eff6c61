-- Rule 16 by its tests; what a sound site tells; lists of rules none of which answers 0, that on a box among them.
use Rattle.std.specs.Prelude.{◌≡◌, Bool, true, false, List, ◌≢◌, ℕ, ◌-◌, ◌<◌, length}
use Rattle.std.proofs.Common.{arith, rules}
use Rattle.base.specs.common.Decide.{Says}
use Rattle.base.specs.common.Refusals.{Rule}
use Rattle.base.specs.common.laws.Refusals.{Answers, finds_keep}
use Rattle.walks.specs.shared.Cells.{Cells}
use Rattle.arguments.specs.asking.Asks.{site_rules, box_rules, Asked, CellsOf}

pub cells_says : (off ix : List ℕ) (n : ℕ) (b : Bool) → length off ≢ 0 → length off - 1 ≡ n → Says b (Cells off (length ix)) → Says b (CellsOf off ix n)
cells_says off ix n true some q c = record { many = omega arith; cut = c }
cells_says off ix n false some q c = λ x. c x.cut

pub site_below : (n s : ℕ) {r : ℕ} → Asked (site_rules n s) r → r ≡ 0 → s < n
site_below n s a z = (finds_keep (λ r. r ≡ 0) (search rules) z a.found).0

-- no rule answers 0
abbrev pub NoneZero : List (Rule ℕ) → Type 0
NoneZero = Answers (λ r. r ≡ 0 → ⊥)

pub box_answers : (sound : Bool) → NoneZero (box_rules sound)
box_answers sound = ((λ _ q. omega arith), tt)
