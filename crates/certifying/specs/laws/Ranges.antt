-- What `all` over a range says of each number.
use Rattle.std.specs.Prelude.{ℕ, ◌<◌, length}
use Rattle.std.specs.List.{AllWithin, range_with_len}
use Rattle.std.proofs.Common.{arith, subst, ◌∙◌}
use Rattle.std.proofs.lemmas.List.FromFn.{length-range_with_len, get_or-range_with_len}

-- what holds of each number of a range holds of each number below its end
pub each_below : (P : ℕ → Type 0) (n : ℕ) → AllWithin P (range_with_len 0 n) 0 (length (range_with_len 0 n)) → (k : ℕ) → k < n → P k
each_below P n h k l = subst P (get_or-range_with_len 0 n k 0 l ∙ omega arith) (h k 0 (omega arith) (omega (arith, length-range_with_len 0 n)))
