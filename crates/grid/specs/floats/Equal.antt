-- Theorem: the floats are the whole numbers, nothing lost: a coordinate of the profile is its float's value, comes back from it, and the float keeps rule 6;
-- so two different whole numbers have two different floats.
use Rattle.std.specs.Prelude.{◌≡◌, Bool, true, false, ◌||◌, ℕ, suc, ◌*◌, ◌^◌, ◌≤◌, ◌<◌, Float, ℤ, pos, negsuc, nat_abs}
use Rattle.std.proofs.Common.{sym, ap, ◌∙◌, le_trans, lt_of_le_of_lt, mul-lt-mul_of_pos_right, arith, lit<, lit≤, le→leb, lt→ltb, leb-true, lt-ltb}
use Rattle.std.specs.Float.{nan, inf, fin, binary64}
use Rattle.std.specs.Float.Ieee.{up, down, of_int, to_signed, in_float, le, lt, eq, of_bits}
use Rattle.std.specs.Float.Ieee.Exact.{HasValue}
use Rattle.std.specs.Float.Ieee.Back.{round_whole, positive_back, negative_back}
use Rattle.std.specs.Float.Ieee.Fits.{down_pos}
use Rattle.plane.specs.points.Rules.{ok_coord}
use Rattle.grid.specs.Plane.{Within}
use Rattle.grid.specs.floats.Sites.{as_float}

-- below 0
abbrev pub minus : ℤ → Bool
minus (pos n) = false
minus (negsuc n) = true

small : (v : ℤ) → Within v → nat_abs v ≤ 8192
small (pos n) w = leb-true n 8192 w.below
small (negsuc n) w = let h = leb-true n 8191 w.above in omega arith

-- its value: the sign and the magnitude, over 1
pub value : (v : ℤ) → Within v → HasValue (as_float v) (minus v) (nat_abs v) 1
unfolding of_int
value (pos n) w = round_whole binary64 false n (le_trans (small (pos n) w) (lit≤ tt))
value (negsuc n) w = round_whole binary64 true (suc n) (le_trans (small (negsuc n) w) (lit≤ tt))

-- it comes back
pub comes_back : (v : ℤ) → Within v → to_signed 31 (as_float v) ≡ v
unfolding in_float
comes_back (pos n) w =
    (positive_back binary64 31 n (le→leb n (2 ^ 53) (le_trans (small (pos n) w) (lit≤ tt))) (lt_of_le_of_lt (small (pos n) w) (lit< tt))).1
comes_back (negsuc n) w =
    (negative_back binary64 31 n (lt→ltb n (2 ^ 53) (le_trans (small (negsuc n) w) (lit≤ tt))) (le_trans (small (negsuc n) w) (lit≤ tt))).1

pub two_floats : (v w : ℤ) → Within v → Within w → as_float v ≡ as_float w → v ≡ w
two_floats v w h k e = sym (comes_back v h) ∙ ap (to_signed 31) e ∙ comes_back w k

-- it keeps rule 6
low : (x : Float) (s : Bool) (n : ℕ) → n ≤ 8192 → HasValue x s n 1 → ok_coord x ≡ true
unfolding ok_coord le lt eq of_bits
low nan s n l h = absurd h
low (inf t) s n l h = absurd h
low (fin t m e) s n l h =
    let under : n * down e < 2 ^ 100 * down e = mul-lt-mul_of_pos_right (lt_of_le_of_lt l (lit< tt)) (down_pos e) in
    let A = m * up e * down (pos 100) in
    let B = 1 * up (pos 100) * down e in
    let below : A < B = rw h.1 under in
    ap (λ b. b || eq (fin false m e) (fin false 1 (pos 100))) (lt-ltb A B below)

pub keeps_six : (v : ℤ) → Within v → ok_coord (as_float v) ≡ true
keeps_six v w = low (as_float v) (minus v) (nat_abs v) (small v w) (value v w)
