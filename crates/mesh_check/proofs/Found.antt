-- What `find` and `all` over the numbers below n tell.
use Rattle.std.proofs.Common.{◌≡◌, Bool, true, ℕ, ◌≤◌, ◌<◌, arith, length, zero-add}
use Rattle.std.specs.Prelude.{Option, MatchOption}
use Rattle.std.specs.declared.option.Option.TheVariants.{None, Some}
use Rattle.std.specs.Bool.{MatchBool}
use Rattle.std.specs.List.{range_with_len, AllWithin}
use Rattle.std.specs.Option.{unwrap_or}
use Rattle.std.proofs.lemmas.Bool.{MatchBool-at_true}
use Rattle.std.proofs.lemmas.List.FromFn.{length-range_with_len, get_or-range_with_len}
use Rattle.base.specs.common.Decide.{First}

-- the first number that `find` finds, else n, is the first offender
pub found_first : {P : ℕ → Type 0} (n : ℕ) (r : Option ℕ)
    → MatchOption r ((k : ℕ) → 0 ≤ k → k < n → P k) (λ i. (0 ≤ i) × (i < n) × (P i → ⊥) × ((k : ℕ) → 0 ≤ k → k < i → P k)) → First P n (unwrap_or r n)
found_first n None m = record { within = omega arith; before = λ k l. m k (omega arith) l; at = λ h. absurd (omega arith) }
found_first n (Some i) m = record { within = omega arith; before = λ k l. m.3 k (omega arith) l; at = λ _. m.2 }

-- where `all` answers yes it holds of each
pub all_below : (P : ℕ → Type 0) (Q : Type 0) (n : ℕ) (b : Bool) → MatchBool b (AllWithin P (range_with_len 0 n) 0 (length (range_with_len 0 n))) Q → b ≡ true
    → (k : ℕ) → k < n → P k
all_below P Q n b m t k l =
    let a = MatchBool-at_true _ Q t m in
    rw (get_or-range_with_len 0 n k 0 l, zero-add) at (a k 0 (omega arith) (rw length-range_with_len l))
