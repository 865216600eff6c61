-- A yes or no that is right, and the first offender of a rule.
use Rattle.std.specs.Prelude.{Bool, true, false, ℕ, ◌≤◌, ◌<◌}

-- the answer b to the question whether P
abbrev pub Says : Bool → Type 0 → Type 0
Says true P = P
Says false P = P → ⊥

-- r is the first number below n of which P does not hold, or n
pub record First (P : ℕ → Type 0) (n r : ℕ) : Type 0 where
  pub within : r ≤ n
  pub before : (k : ℕ) → k < r → P k
  pub at : r < n → P r → ⊥
