-- What the query for an edge that two cells share promises: rule 4 on either site, then rule 16, and whether they share two entries.
use Rattle.std.specs.Prelude.{◌≡◌, Bool, false, List, ◌∷◌, ℕ, ◌-◌, ◌<◌, eqb, length, Result, Ok, Err}
use Rattle.base.specs.common.Pick.{pick}
use Rattle.base.specs.common.Refusals.{once, Finds}
use Rattle.base.specs.numbers.Numbers.{refused_site}
use Rattle.walks.specs.shared.Cells.{share_edge_of}
use Rattle.arguments.specs.asking.Asks.{cell_rules}
use Rattle.base.specs.declared.refusal.Refusal.{Refusal}
use Rattle.base.specs.refusal.Number.{answer_number}

-- what is told: the number, and the answer
pub record Told : Type 0 where
  pub number : ℕ
  pub yes : Bool

abbrev pub told_of : ℕ → Bool → Told
told_of number b = record { number = number; yes = b }

pub record SharesAnswer (off ix : List ℕ) (a b : ℕ) (r : Told) : Type 0 where
  pub number : Finds (once refused_site ((a < length off - 1) × (b < length off - 1)) ∷ cell_rules off ix (length off - 1)) 0 r.number
  pub yes : r.yes ≡ pick (eqb r.number 0) (λ _. share_edge_of off ix a b) (λ _. false)

-- no where it is refused
abbrev pub is_yes : Result Bool Refusal → Bool
is_yes (Ok b) = b
is_yes (Err _) = false

abbrev pub told : Result Bool Refusal → Told
told r = told_of (answer_number r) (is_yes r)
