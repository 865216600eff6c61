-- How small a root can be: that of 2 ^ (2 t) / 2 ^ 1074 or more is 2 ^ t / 2 ^ 537 at least, since a root falls nowhere.
use Rattle.std.specs.Prelude.{◌≡◌, true, false, ℕ, zero, suc, ◌+◌, ◌*◌, ◌/◌, ◌^◌, ◌≤◌, ◌<◌, Float}
use Rattle.std.proofs.Common.{sym, ap, ◌∙◌, subst, true≢false, le_trans, le_of_eq, lt_irrefl, lt_of_lt_of_le, mul_assoc, mul_right_comm, one-mul, zero-mul, mul-pos, mul-div_cancel, mul-le-mul_right, le_of_mul-le-mul_right, le-div_iff_mul-le, arith, lit<, pow-add, pow_pos}
use Prim.{tt}
use Rattle.std.proofs.Math.Pow.{pow-lt}
use Rattle.std.specs.Float.{nan, inf, fin, binary64}
use Rattle.std.specs.Float.Ieee.{up, down, round}
use Rattle.std.specs.Float.Ieee.Exact.{HasValue, round_exact}
use Rattle.std.specs.Float.Ieee.Fits.{down_pos, round-fits}
use Rattle.root.specs.whole_root.Near.{sq}
use Rattle.root.specs.Root.{units, Plus, NearestRoot, Root}
use Rattle.root.specs.Unique.{at_least}
use Rattle.root.specs.laws.Sizes.{AtLeast}

-- ---- in units of 2 ^ -1074
least_units : (x : Float) (a : ℕ) → AtLeast a 1074 x → a ≤ units x
least_units nan a h = absurd h
least_units (inf s) a h = absurd h
least_units (fin s m e) a h = (le-div_iff_mul-le (down_pos e)).1 h

units_least : (x : Float) (t : ℕ) → Plus x → 2 ^ (t + 537) ≤ units x → AtLeast (2 ^ t) 537 x
units_least nan t p h = absurd p
units_least (inf s) t p h = absurd p
units_least (fin s m e) t p h =
    le_of_mul-le-mul_right
    (le_trans (le_of_eq (mul_right_comm (2 ^ t) (down e) (2 ^ 537) ∙ ap (λ (x : ℕ). x * down e) (sym (pow-add 2 t 537))))
    (le_trans ((le-div_iff_mul-le (down_pos e)).0 h) (le_of_eq (ap (λ (x : ℕ). m * up e * x) (pow-add 2 537 537) ∙ sym (mul_assoc (m * up e) (2 ^ 537) (2 ^ 537))))))
    (pow_pos 537)

-- ---- the value 2 ^ t / 2 ^ 537
abbrev half : ℕ → Float
half t = round binary64 false (2 ^ t) (2 ^ 537)

half_value : (t : ℕ) → t + 537 < 2098 → HasValue (half t) false (2 ^ t) (2 ^ 537)
half_value t h =
    let one = one-mul (2 ^ (t + 537)) in
    round_exact binary64 false (2 ^ t) (2 ^ 537) 1 (t + 537) (pow_pos 537) (lit< tt) (lt_of_le_one (pow-lt h))
    (sym (pow-add 2 t 1074) ∙ ap (λ (x : ℕ). 2 ^ x) (same t) ∙ pow-add 2 (t + 537) 537 ∙ ap (λ (x : ℕ). x * 2 ^ 537) (sym one))
  where
    same : (t : ℕ) → t + 1074 ≡ t + 537 + 537
    same t = omega arith

    lt_of_le_one : 2 ^ (t + 537) < 2 ^ 2098 → 1 * 2 ^ (t + 537) < 2 ^ 2098
    lt_of_le_one h = subst (λ (x : ℕ). x < 2 ^ 2098) (sym (one-mul (2 ^ (t + 537)))) h

pub value_plus : (x : Float) (a c : ℕ) → HasValue x false a c → Plus x
value_plus nan a c v = v
value_plus (inf s) a c v = v
value_plus (fin s m e) a c v = v.0

value_units : (x : Float) (t : ℕ) → HasValue x false (2 ^ t) (2 ^ 537) → units x ≡ 2 ^ (t + 537)
value_units nan t v = absurd v
value_units (inf s) t v = absurd v
value_units (fin s m e) t v =
    ap (λ (x : ℕ). x / down e)
    (ap (λ (x : ℕ). m * up e * x) (pow-add 2 537 537)
    ∙ sym (mul_assoc (m * up e) (2 ^ 537) (2 ^ 537))
    ∙ ap (λ (x : ℕ). x * 2 ^ 537) v.1
    ∙ mul_right_comm (2 ^ t) (down e) (2 ^ 537)
    ∙ ap (λ (x : ℕ). x * down e) (sym (pow-add 2 t 537)))
    ∙ mul-div_cancel (2 ^ (t + 537)) (down_pos e)

-- ---- the root
near_least : (x r : Float) (t : ℕ) → t + 537 < 2098 → NearestRoot x r → AtLeast (2 ^ (t + t)) 1074 x → AtLeast (2 ^ t) 537 r
near_least x r t h n a =
    let v = half_value t h in
    let u = value_units (half t) t v in
    let g : sq (units (half t)) ≤ units x * 2 ^ 1074 =
    le_trans (le_of_eq (ap sq u ∙ square)) (mul-le-mul_right (2 ^ 1074) (least_units x (2 ^ (t + t)) a)) in
    units_least r t n.plus (le_trans (le_of_eq (sym u)) (at_least n (half t) (round-fits binary64 false (2 ^ t) (2 ^ 537)) (value_plus (half t) (2 ^ t) (2 ^ 537) v) g))
  where
    twice : (t : ℕ) → t + 537 + (t + 537) ≡ t + t + 1074
    twice t = omega arith

    square : sq (2 ^ (t + 537)) ≡ 2 ^ (t + t) * 2 ^ 1074
    square = sym (pow-add 2 (t + 537) (t + 537)) ∙ ap (λ (x : ℕ). 2 ^ x) (twice t) ∙ pow-add 2 (t + t) 1074

-- of a value that is not below 0
pub root_least : (x r : Float) (t : ℕ) → t + 537 < 2098 → Plus x → Root x r → AtLeast (2 ^ (t + t)) 1074 x → AtLeast (2 ^ t) 537 r
root_least nan r t h p n a = absurd p
root_least (inf s) r t h p n a = absurd p
root_least (fin s zero e) r t h p n a =
    absurd (lt_irrefl 0 (lt_of_lt_of_le (mul-pos (pow_pos (t + t)) (down_pos e)) (le_trans a (le_of_eq (ap (λ (x : ℕ). x * 2 ^ 1074) (zero-mul (up e)) ∙ zero-mul (2 ^ 1074))))))
root_least (fin true (suc m) e) r t h p n a = absurd (true≢false p)
root_least (fin false (suc m) e) r t h p n a = near_least (fin false (suc m) e) r t h n a
