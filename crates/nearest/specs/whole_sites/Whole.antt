-- The whole number of the profile that a float is: the one whose float it equals; 8,193, beyond the profile, for a float that is none.
use Rattle.std.specs.Prelude.{true, false, List, map, ℤ, pos, neg_ℤ, int_lt, Float}
use Rattle.std.specs.Float.{binary64, fin}
use Rattle.std.specs.Float.Ieee.{of_int, to_signed, le, lt, eq}
use Rattle.base.specs.common.Pick.{pick}

-- v, if it is of the profile and x is its float
unfoldable pub whole_kept : ℤ → Float → ℤ
whole_kept v x =
    pick (int_lt v (neg_ℤ (pos 8192))) (λ _. pos 8193) (λ _. pick (int_lt (pos 8192) v) (λ _. pos 8193) (λ _. pick (eq (of_int binary64 v) x) (λ _. v) (λ _. pos 8193)))

-- x without its fraction is tried, where that is a number of 64 bits
unfoldable pub whole_number : Float → ℤ
whole_number x =
    pick (le (fin true 1 (pos 63)) x) (λ _. pick (lt x (fin false 1 (pos 63))) (λ _. whole_kept (to_signed 63 x) x) (λ _. pos 8193)) (λ _. pos 8193)

abbrev pub wholes_of : List Float → List ℤ
wholes_of sites = map whole_number sites
