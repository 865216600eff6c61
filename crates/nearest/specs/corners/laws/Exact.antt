-- Equal floats have one value, and a whole number over a power of two is computed without rounding.
use Rattle.std.specs.Prelude.{◌≡◌, ℕ, ◌+◌, ◌-◌, ◌*◌, ◌/◌, ◌^◌, ◌<◌, ◌≤◌, min, Bool, true, false, ◌&&◌, ◌||◌, ◌⊎◌, pos, ◌==◌, refl, Float}
use Rattle.std.proofs.Common.{sym, ap, ◌∙◌, subst, inl, inr, ⊎_elim, zero-mul, mul-one, mul-pos, mul-lt-mul_of_pos_right, mul-div_cancel, lt_of_lt_of_le, le_of_eq, arith, eqb-true, eq-eqb, ne_eqb, lt-ltb, lit≤, pow_pos}
use Rattle.std.specs.Bool.{beq}
use Rattle.std.proofs.lemmas.Bool.{false≢true}
use Rattle.std.proofs.Math.Nat.{eq_of_mul-eq-mul_right, min-eq_left}
use Rattle.std.specs.Float.{nan, inf, fin}
use Rattle.std.specs.Float.Ieee.{up, down, mul, div, to_unsigned, lt, eq}
use Rattle.std.specs.Float.Ieee.Exact.{HasValue}
use Rattle.std.specs.Float.Ieee.Fits.{down_pos}
use Rattle.base.specs.common.Binary64.{◌⊠◌, ◌⊘◌}
use Rattle.base.specs.common.laws.And.{and_left, and_right}
use Rattle.base.specs.common.laws.Decide.{lt_or_ge}
use Rattle.nearest_laws.specs.laws.Exactly.{kept}

same_sign : (i j : Bool) → beq i j ≡ true → i ≡ j
same_sign true true h = refl
same_sign true false h = absurd (false≢true h)
same_sign false true h = absurd (false≢true h)
same_sign false false h = refl

no_product : (x d : ℕ) → 0 < d → x * d ≡ 0 → x ≡ 0
no_product x d h q = ⊎_elim (λ l. omega arith) (λ l. absurd (omega (arith, q, mul-pos l h))) (lt_or_ge x 1)

-- the value of one is the value of the other; the sign too, but for a zero
pub eq_value : (x y : Float) (s : Bool) (a c : ℕ) → eq x y ≡ true → HasValue x s a c → (t : Bool) × HasValue y t a c × ((t ≡ s) ⊎ (a ≡ 0))
unfolding eq
eq_value nan y s a c e h = absurd h
eq_value (inf i) y s a c e h = absurd h
eq_value (fin i m g) nan s a c e h = absurd (false≢true e)
eq_value (fin i m g) (inf j) s a c e h = absurd (false≢true e)
eq_value (fin i m g) (fin j n d) s a c e h =
    let q = eqb-true (m * up g * down d) (n * up d * down g) (and_left (m * up g * down d == n * up d * down g) (beq i j || m * up g * down d == 0) e) in (
      j,
      (refl, across (m * up g) (n * up d) (down d) (down g) (down_pos g) q h.1),
      sign (beq i j) refl (and_right (m * up g * down d == n * up d * down g) (beq i j || m * up g * down d == 0) e),
    )
  where
    across : (M N D G : ℕ) → 0 < G → M * D ≡ N * G → M * c ≡ a * G → N * c ≡ a * D
    across M N D G p q r =
        eq_of_mul-eq-mul_right G p (N * c) (a * D) (turn N c G ∙ ap (λ (z : ℕ). z * c) (sym q) ∙ turn M D c ∙ ap (λ (z : ℕ). z * D) r ∙ turn a G D)
      where
        turn : (x y z : ℕ) → x * y * z ≡ x * z * y
        turn x y z = omega arith

    sign : (b : Bool) → beq i j ≡ b → (b || m * up g * down d == 0) ≡ true → (j ≡ s) ⊎ (a ≡ 0)
    sign true q k = inl (sym (same_sign i j q) ∙ h.0)
    sign false q k =
        let z = no_product (m * up g) (down d) (down_pos d) (eqb-true (m * up g * down d) 0 k) in
        inr (no_product a (down g) (down_pos g) (sym h.1 ∙ ap (λ (w : ℕ). w * c) z ∙ zero-mul c))

-- v over 2^k
pub quotient_at : (k : ℕ) → k ≤ 1074 → (x y : Float) (a : ℕ) → HasValue x false a 1 → HasValue y false (2 ^ k) 1 → a < 2 ^ 53 → HasValue (x ⊘ y) false a (2 ^ k)
unfolding div
quotient_at k l nan y a p q f = absurd p
quotient_at k l (inf i) y a p q f = absurd p
quotient_at k l (fin true m e) y a p q f = absurd (false≢true (sym p.0))
quotient_at k l (fin false m e) nan a p q f = absurd q
quotient_at k l (fin false m e) (inf j) a p q f = absurd q
quotient_at k l (fin false m e) (fin true n d) a p q f = absurd (false≢true (sym q.0))
quotient_at k l (fin false m e) (fin false n d) a p q f =
    rw (ne_eqb n 0 some) (kept false (m * up e * down d) (n * up d * down e) a k (mul-pos (subst (λ (z : ℕ). 0 < z) (sym over) (mul-pos (pow_pos k) (down_pos d))) (down_pos e)) l f
    (split (m * up e) (n * up d) (down d) (down e) (2 ^ k) p.1 over))
  where
    over : n * up d ≡ 2 ^ k * down d
    over = omega (arith, q.1)

    some : n ≡ 0 → ⊥
    some z = absurd (omega (arith, mul-pos (pow_pos k) (down_pos d), over, ap (λ (w : ℕ). w * up d) z))

    split : (M N D E P : ℕ) → M * 1 ≡ a * E → N ≡ P * D → M * D * P ≡ a * (N * E)
    split M N D E P r t = ap (λ (z : ℕ). z * D * P) (one M ∙ r) ∙ turn a E D P ∙ ap (λ (z : ℕ). a * (z * E)) (sym t)
      where
        one : (x : ℕ) → x ≡ x * 1
        one x = omega arith

        turn : (x y z w : ℕ) → x * y * z * w ≡ x * (w * z * y)
        turn x y z w = omega arith

-- ---- and back
pub product_at : (k : ℕ) (x y : Float) (a : ℕ) → HasValue x false a (2 ^ k) → HasValue y false (2 ^ k) 1 → a < 2 ^ 53 → HasValue (x ⊠ y) false a 1
unfolding mul
product_at k nan y a p q f = absurd p
product_at k (inf i) y a p q f = absurd p
product_at k (fin true m e) y a p q f = absurd (false≢true (sym p.0))
product_at k (fin false m e) nan a p q f = absurd q
product_at k (fin false m e) (inf j) a p q f = absurd q
product_at k (fin false m e) (fin true n d) a p q f = absurd (false≢true (sym q.0))
product_at k (fin false m e) (fin false n d) a p q f =
    kept false (m * up e * (n * up d)) (down e * down d) a 0 (mul-pos (down_pos e) (down_pos d)) (omega arith) f (split (m * up e) (n * up d) (down e) (down d) (2 ^ k) p.1 (omega (arith, q.1)))
  where
    split : (M N E D P : ℕ) → M * P ≡ a * E → N ≡ P * D → M * N * 1 ≡ a * (E * D)
    split M N E D P r t = ap (λ (z : ℕ). M * z * 1) t ∙ turn M P D ∙ ap (λ (z : ℕ). z * D) r ∙ join a E D
      where
        turn : (x y z : ℕ) → x * (y * z) * 1 ≡ x * y * z
        turn x y z = omega arith

        join : (x y z : ℕ) → x * y * z ≡ x * (y * z)
        join x y z = omega arith

-- a whole number below 2^64 is cut to itself
pub cut_at : (x : Float) (a : ℕ) → HasValue x false a 1 → a < 2 ^ 63 → (lt (fin true 1 (pos 0)) x ≡ true) × (lt x (fin false 1 (pos 64)) ≡ true) × (to_unsigned 64 x ≡ a)
unfolding lt to_unsigned
cut_at nan a h l = absurd h
cut_at (inf i) a h l = absurd h
cut_at (fin true m e) a h l = absurd (false≢true (sym h.0))
cut_at (fin false m e) a h l = (
  lt-ltb 0 (1 * 2 ^ 0 * down e + m * up e * 1) (omega (arith, down_pos e)),
  lt-ltb (m * up e * 1) (1 * 2 ^ 64 * down e) (rw h.1 (lt_of_lt_of_le (mul-lt-mul_of_pos_right (lt_of_lt_of_le l (lit≤ tt)) (down_pos e)) (le_of_eq refl))),
  ap (λ (z : ℕ). min z (2 ^ 64 - 1)) (ap (λ (z : ℕ). z / down e) (sym (mul-one (m * up e)) ∙ h.1) ∙ mul-div_cancel a (down_pos e)) ∙ min-eq_left (omega (arith, l)),
)

-- one value is one float, as far as `==` tells
pub value_eq : (x y : Float) (a c : ℕ) → 0 < c → HasValue x false a c → HasValue y false a c → eq x y ≡ true
unfolding eq
value_eq nan y a c h p q = absurd p
value_eq (inf i) y a c h p q = absurd p
value_eq (fin true m e) y a c h p q = absurd (false≢true (sym p.0))
value_eq (fin false m e) nan a c h p q = absurd q
value_eq (fin false m e) (inf j) a c h p q = absurd q
value_eq (fin false m e) (fin true n d) a c h p q = absurd (false≢true (sym q.0))
value_eq (fin false m e) (fin false n d) a c h p q =
    ap (λ (b : Bool). b && true) (eq-eqb (m * up e * down d) (n * up d * down e) (across (m * up e) (n * up d) (down e) (down d) p.1 q.1))
  where
    across : (M N E D : ℕ) → M * c ≡ a * E → N * c ≡ a * D → M * D ≡ N * E
    across M N E D r t = eq_of_mul-eq-mul_right c h (M * D) (N * E) (turn M D c ∙ ap (λ (z : ℕ). z * D) r ∙ turn a E D ∙ ap (λ (z : ℕ). z * E) (sym t) ∙ turn N c E)
      where
        turn : (x y z : ℕ) → x * y * z ≡ x * z * y
        turn x y z = omega arith
