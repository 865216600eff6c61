-- Theorem: what `grid_sites` makes of whole numbers is read back (`whole_back`, `wholes_back`): the limit and the float that are tried here are those of the profile there.
use Rattle.std.specs.Prelude.{◌≡◌, ℕ, suc, ◌+◌, ◌*◌, ◌^◌, ◌<◌, Bool, true, false, ◌&&◌, ◌||◌, List, [], ◌∷◌, length, ℤ, pos, negsuc, slice_index_or, unsigned_abs, refl, Float}
use Rattle.std.proofs.Common.{ap, le_of_lt, le_of_eq, lt_of_le_of_lt, lt_of_lt_of_le, mul-lt-mul_of_pos_right, arith, leb-true, eq-eqb, lt-ltb, le-ltb, lit≤, le→leb, lt→ltb}
use Rattle.std.specs.Float.{nan, inf, fin, binary64}
use Rattle.std.specs.Float.Ieee.{up, down, to_signed, in_float, le, lt, eq}
use Rattle.std.specs.Float.Ieee.Exact.{HasValue}
use Rattle.std.specs.Float.Ieee.Back.{positive_back, negative_back}
use Rattle.std.specs.Float.Ieee.Fits.{down_pos}
use Rattle.grid.specs.Plane.{Within}
use Rattle.grid.specs.floats.Sites.{as_float, floats_of}
use Rattle.grid.specs.floats.Equal.{minus, value}
use Rattle.nearest.specs.whole_sites.Whole.{whole_kept, whole_number, wholes_of}

small : (v : ℤ) → Within v → unsigned_abs v < 8193
small (pos n) w = let h = leb-true n 8192 w.below in omega arith
small (negsuc n) w = let h = leb-true n 8191 w.above in omega arith

-- a value of at most 8,192 in magnitude lies between -2^63 and 2^63, and equals itself
module _ (t : Bool) (m : ℕ) (e : ℤ) (s : Bool) (n : ℕ) (l : n < 8193) (h : HasValue (fin t m e) s n 1) where
  under : m * up e * 1 < 1 * 2 ^ 63 * down e
  under = rw h.1 (lt_of_lt_of_le (mul-lt-mul_of_pos_right (lt_of_lt_of_le l (lit≤ tt)) (down_pos e)) (le_of_eq refl))

  some : 0 < 1 * 2 ^ 63 * down e
  some = lt_of_le_of_lt (omega arith) under

below_end : (x : Float) (s : Bool) (n : ℕ) → n < 8193 → HasValue x s n 1 → lt x (fin false 1 (pos 63)) ≡ true
unfolding lt
below_end nan s n l h = absurd h
below_end (inf t) s n l h = absurd h
below_end (fin true m e) s n l h = lt-ltb 0 (m * up e * 1 + 1 * 2 ^ 63 * down e) (more (m * up e * 1) (1 * 2 ^ 63 * down e) (some true m e s n l h))
  where
    more : (a b : ℕ) → 0 < b → 0 < a + b
    more a b h = omega arith
below_end (fin false m e) s n l h = lt-ltb (m * up e * 1) (1 * 2 ^ 63 * down e) (under false m e s n l h)

from_least : (x : Float) (s : Bool) (n : ℕ) → n < 8193 → HasValue x s n 1 → le (fin true 1 (pos 63)) x ≡ true
unfolding le lt
from_least nan s n l h = absurd h
from_least (inf t) s n l h = absurd h
from_least (fin true m e) s n l h = ap (λ (b : Bool). b || eq (fin true 1 (pos 63)) (fin true m e)) (lt-ltb (m * up e * 1) (1 * 2 ^ 63 * down e) (under true m e s n l h))
from_least (fin false m e) s n l h =
    ap (λ (b : Bool). b || eq (fin true 1 (pos 63)) (fin false m e))
    (lt-ltb 0 (1 * 2 ^ 63 * down e + m * up e * 1) (more (1 * 2 ^ 63 * down e) (m * up e * 1) (some false m e s n l h)))
  where
    more : (a b : ℕ) → 0 < a → 0 < a + b
    more a b h = omega arith

itself : (x : Float) (s : Bool) (n : ℕ) → HasValue x s n 1 → eq x x ≡ true
unfolding eq
itself nan s n h = absurd h
itself (inf t) s n h = absurd h
itself (fin true m e) s n h = ap (λ (b : Bool). b && true) (eq-eqb (m * up e * down e) (m * up e * down e) refl)
itself (fin false m e) s n h = ap (λ (b : Bool). b && true) (eq-eqb (m * up e * down e) (m * up e * down e) refl)

comes_back : (v : ℤ) → Within v → to_signed 63 (as_float v) ≡ v
unfolding in_float
comes_back (pos n) w =
    (positive_back binary64 63 n (le→leb n (2 ^ 53) (le_of_lt (lt_of_lt_of_le (small (pos n) w) (lit≤ tt)))) (lt_of_lt_of_le (small (pos n) w) (lit≤ tt))).1
comes_back (negsuc n) w =
    (negative_back binary64 63 n (lt→ltb n (2 ^ 53) (le_of_lt (lt_of_lt_of_le (small (negsuc n) w) (lit≤ tt)))) (le_of_lt (lt_of_lt_of_le (small (negsuc n) w) (lit≤ tt)))).1

kept : (v : ℤ) → Within v → whole_kept v (as_float v) ≡ v
unfolding whole_kept
kept (pos n) w = rw (le-ltb 8192 n (leb-true n 8192 w.below), itself (as_float (pos n)) false n (value (pos n) w))
kept (negsuc n) w = rw (le-ltb 8191 n (leb-true n 8191 w.above), itself (as_float (negsuc n)) true (suc n) (value (negsuc n) w))

-- one number
pub whole_back : (v : ℤ) → Within v → whole_number (as_float v) ≡ v
unfolding whole_number
whole_back v w =
    let x = as_float v in
    let h = value v w in
    rw (from_least x (minus v) (unsigned_abs v) (small v w) h, below_end x (minus v) (unsigned_abs v) (small v w) h, comes_back v w) (kept v w)

-- all of them
pub wholes_back : (grid : List ℤ) → ((k : ℕ) → k < length grid → Within (slice_index_or grid k (pos 0))) → wholes_of (floats_of grid) ≡ grid
wholes_back [] all = refl
wholes_back (v ∷ grid) all = rw (whole_back v (all 0 (omega arith)), wholes_back grid (λ k l. all (suc k) (omega arith))) refl
