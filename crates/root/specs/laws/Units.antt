-- A value as a whole number of units of 2 ^ -1074: one that binary64 holds is a number of at most 53 digits with zeros after them (`held_units`, `short`).
-- And the way from a root of whole numbers to a root of values: what is `NearWhole` is `NearestRoot` (`nearest_of_lem`).
use Rattle.std.specs.Prelude.{◌≡◌, refl, Bool, false, ◌&&◌, ℕ, zero, suc, ◌+◌, ◌-◌, ◌*◌, ◌/◌, ◌%◌, ◌^◌, ◌≤◌, ◌<◌, T, leb, ltb, eqb, ℤ, pos, negsuc, Float}
use Rattle.std.proofs.Common.{sym, ap, ◌∙◌, subst, mul_assoc, mul-one, mul_right_comm, zero-mul, lt_irrefl, mul-div_cancel, div-lt_iff_lt-mul, mul-lt-mul_of_pos_right, lt_of_not-le, lt_of_lt_of_le, le_of_eq, le_of_suc-le-suc, ltb→lt, leb→le, lit<, pow_pos, pow-add}
use Rattle.std.proofs.Math.Nat.{zero-div}
use Rattle.std.proofs.Math.Pow.{pow-lt}
use Rattle.std.specs.Float.{nan, inf, fin, binary64}
use Rattle.std.specs.Float.Ieee.{up, down, odd, fits}
use Rattle.std.specs.Float.Ieee.Digits.{Equals, odd_val, back}
use Rattle.std.specs.Float.Ieee.Fits.{and_l, and_r, down_pos}
use Rattle.root.specs.whole_root.Near.{sq, NearWhole}
use Rattle.root.specs.Root.{units, Plus, NearestRoot}
use Rattle.root.specs.laws.Gaps.{over, under}

units_of : (v : Float) (a : ℕ) → Equals v a (2 ^ 1074) → units v ≡ a
units_of nan a h = absurd h
units_of (inf s) a h = absurd h
units_of (fin s m e) a h = ap (λ (x : ℕ). x / down e) h ∙ mul-div_cancel a (down_pos e)

pub odd_units : (d : ℕ) (s : Bool) (q k : ℕ) → units (odd d s q k 1074) ≡ q * 2 ^ k
odd_units d s q k = units_of (odd d s q k 1074) (q * 2 ^ k) (odd_val d s q k 1074)

pub odd_plus : (d q k l : ℕ) → Plus (odd d false q k l)
unfolding odd
odd_plus d zero k l = refl
odd_plus d (suc q) k l = refl

pub zero_units : (s : Bool) (e : ℤ) → units (fin s zero e) ≡ 0
zero_units s e = ap (λ (x : ℕ). x * 2 ^ 1074 / down e) (zero-mul (up e)) ∙ zero-div (down e)

pow_le_back : (a l : ℕ) → 2 ^ a ≤ 2 ^ l → a ≤ l
pow_le_back a l h = le_of_suc-le-suc (lt_of_not-le (λ (g : suc l ≤ a). lt_irrefl (2 ^ l) (lt_of_lt_of_le (pow-lt g) h)))

shift : (m : ℕ) (e : ℤ) → down e ≤ 2 ^ 1074 → (j : ℕ) × (m * up e * 2 ^ 1074 ≡ m * 2 ^ j * down e)
shift m (pos a) d = (a + 1074, mul_assoc m (2 ^ a) (2 ^ 1074) ∙ ap (λ (x : ℕ). m * x) (sym (pow-add 2 a 1074)) ∙ sym (mul-one (m * 2 ^ (a + 1074))))
shift m (negsuc a) d = (
  1074 - suc a,
  ap (λ (x : ℕ). x * 2 ^ 1074) (mul-one m)
      ∙ ap (λ (x : ℕ). m * x) (ap (λ (x : ℕ). 2 ^ x) (sym (back 1074 (suc a) (pow_le_back (suc a) 1074 d))) ∙ pow-add 2 (1074 - suc a) (suc a))
      ∙ sym (mul_assoc m (2 ^ (1074 - suc a)) (2 ^ suc a)),
)

-- what binary64 holds, above 0
pub record HeldUnits (m : ℕ) (e : ℤ) : Type 0 where
  pub zeros : ℕ
  pub value : m * up e * 2 ^ 1074 / down e ≡ m * 2 ^ zeros
  pub exact : m * up e * 2 ^ 1074 / down e * down e ≡ m * up e * 2 ^ 1074
  pub digits : m < 2 ^ 53
  pub bound : m * up e * 2 ^ 1074 / down e < 2 ^ 2098

pub held_units : (s : Bool) (m : ℕ) (e : ℤ) → T (fits binary64 (fin s (suc m) e)) → HeldUnits (suc m) e
unfolding fits
held_units s m e h =
    let A = eqb (suc m % 2) 1 in
    let B = ltb (suc m) (2 ^ 53) in
    let C = leb (down e) (2 ^ 1074) in
    let D = ltb (suc m * up e) (2 ^ 1024 * down e) in
    let t = and_l (A && B && C) D h in
    let j = shift (suc m) e (leb→le (down e) (2 ^ 1074) (and_r (A && B) C t)) in
    let v : suc m * up e * 2 ^ 1074 / down e ≡ suc m * 2 ^ j.0 = ap (λ (x : ℕ). x / down e) j.1 ∙ mul-div_cancel (suc m * 2 ^ j.0) (down_pos e) in
    record {
      zeros = j.0;
      value = v;
      exact = ap (λ (x : ℕ). x * down e) v ∙ sym j.1;
      digits = ltb→lt (suc m) (2 ^ 53) (and_r A B (and_l (A && B) C t));
      bound = (div-lt_iff_lt-mul (down_pos e)).1
          (lt_of_lt_of_le (mul-lt-mul_of_pos_right (ltb→lt (suc m * up e) (2 ^ 1024 * down e) (and_r (A && B && C) D h)) (pow_pos 1074)) (le_of_eq (mul_right_comm (2 ^ 1024) (down e) (2 ^ 1074))));
    }

abbrev Short : ℕ → Type 0
Short n = (m : ℕ) × (j : ℕ) × (m < 2 ^ 53) × (n ≡ m * 2 ^ j)

short : (v : Float) → T (fits binary64 v) → Short (units v)
short nan h = (0, 0, lit< tt, refl)
short (inf s) h = (0, 0, lit< tt, refl)
short (fin s zero e) h = (0, 0, lit< tt, zero_units s e)
short (fin s (suc m) e) h = let w = held_units s m e h in (suc m, w.zeros, w.digits, w.value)

-- a root that is `NearWhole` is the nearest value
pub nearest_of_lem : (x r : Float) (n q h : ℕ) → T (fits binary64 r) → Plus r → units r ≡ q * 2 ^ h → units x * 2 ^ 1074 ≡ n * sq (2 ^ h)
    → NearWhole n q → 2 ^ 104 ≤ n → NearestRoot x r
nearest_of_lem x r n q h f p u e near low = record {
  held = f;
  plus = p;
  below = λ v g w l.
      let s = short v g in
      let d : units v ≡ s.0 * 2 ^ s.1 = s.3 in
      subst (λ (a : ℕ). sq (units r + units v) < 4 * a) (sym e) (rw (u, d) (under near low h s.0 s.1 s.2 (rw (u, d) at l)));
  above = λ v g w l.
      let s = short v g in
      let d : units v ≡ s.0 * 2 ^ s.1 = s.3 in
      subst (λ (a : ℕ). 4 * a < sq (units r + units v)) (sym e) (rw (u, d) (over near low h s.0 s.1 s.2 (rw (u, d) at l)));
}
