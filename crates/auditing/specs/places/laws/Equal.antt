-- Floats that are equal are one float once 0 is added: -0 + 0 is 0, and no other float is written in two ways.
use Rattle.std.specs.Prelude.{◌≡◌, refl, Bool, true, false, ◌&&◌, ◌||◌, cond, ℕ, zero, suc, ◌-◌, ◌*◌, ◌<◌, T, ltb, eqb, ℤ, Float}
use Rattle.std.proofs.Common.{sym, ap, ◌∙◌, subst, arith, mul-pos, mul-one, zero-mul, zero-lt-suc, add-zero, lt-ltb, le-ltb, eqb→eq}
use Rattle.std.specs.Bool.{beq}
use Rattle.std.proofs.lemmas.Bool.{false≢true}
use Prim.{tt}
use Rattle.std.proofs.Math.Nat.{sub-zero}
use Rattle.std.specs.Float.{nan, inf, fin, binary64}
use Rattle.std.specs.Float.Ieee.{up, down, eq, add, sum, round, of_bits, of_fields, odd}
use Rattle.std.specs.Float.Ieee.Fits.{down_pos, and_l, and_r}
use Rattle.std.specs.Float.Ieee.Scale.{round_same}
use Rattle.base.specs.common.Binary64 as B
use Rattle.base.specs.common.Binary64.{◌⊞◌}

sum_zero : (s : Bool) (a c : ℕ) → sum binary64 s a false 0 c ≡ round binary64 (s && ltb 0 a) a c
unfolding sum
sum_zero false a c = ap (λ (n : ℕ). round binary64 false n c) (add-zero a)
sum_zero true a c =
    ap (λ (b : Bool). cond b (round binary64 false (0 - a) c) (round binary64 (ltb 0 a) (a - 0) c)) (le-ltb a 0 (omega arith))
    ∙ ap (λ (n : ℕ). round binary64 (ltb 0 a) n c) (sub-zero a)

plus_zero : (s : Bool) (m : ℕ) (e : ℤ) → fin s m e ⊞ B.zero ≡ round binary64 (s && ltb 0 (m * up e)) (m * up e) (down e)
unfolding add of_bits of_fields odd
plus_zero s m e = sums (mul-one (m * up e)) (zero-mul (down e)) (mul-one (down e)) ∙ sum_zero s (m * up e) (down e)
  where
    sums : {a b c a' b' c' : ℕ} → a ≡ a' → b ≡ b' → c ≡ c' → sum binary64 s a false b c ≡ sum binary64 s a' false b' c'
    sums p q r = cc

-- the sign of what is rounded
module _ {p q : ℕ} (hp : 0 < p) (hq : 0 < q) where
  signs : (s t : Bool) (a b : ℕ) → a * q ≡ b * p → T (beq s t || eqb (a * q) 0) → s && ltb 0 a ≡ t && ltb 0 b
  signs s t zero zero e h = none s ∙ sym (none t)
    where
      none : (s : Bool) → s && false ≡ false
      none true = refl
      none false = refl
  signs s t zero (suc b) e h = absurd (omega (arith, mul-pos (zero-lt-suc b) hp))
  signs s t (suc a) zero e h = absurd (omega (arith, mul-pos (zero-lt-suc a) hq))
  signs s t (suc a) (suc b) e h =
      ap (λ (z : Bool). s && z) (lt-ltb 0 (suc a) (omega arith))
      ∙ go s t (suc a * q) (mul-pos (zero-lt-suc a) hq) h
      ∙ sym (ap (λ (z : Bool). t && z) (lt-ltb 0 (suc b) (omega arith)))
    where
      go : (s t : Bool) (n : ℕ) → 0 < n → T (beq s t || eqb n 0) → s && true ≡ t && true
      go true true n g h = refl
      go false false n g h = refl
      go true false n g h = absurd (no n g (eqb→eq n 0 h))
        where
          no : (n : ℕ) → 0 < n → n ≡ 0 → ⊥
          no n g z = omega arith
      go false true n g h = absurd (no n g (eqb→eq n 0 h))
        where
          no : (n : ℕ) → 0 < n → n ≡ 0 → ⊥
          no n g z = omega arith

beq_same : (s t : Bool) → beq s t ≡ true → s ≡ t
beq_same true true h = refl
beq_same false false h = refl
beq_same true false h = absurd (false≢true h)
beq_same false true h = absurd (false≢true h)

pub equal_plus_zero : (x y : Float) → eq x y ≡ true → x ⊞ B.zero ≡ y ⊞ B.zero
unfolding eq
equal_plus_zero nan y h = absurd (false≢true h)
equal_plus_zero (inf s) nan h = absurd (false≢true h)
equal_plus_zero (inf s) (inf t) h = ap (λ (b : Bool). inf b ⊞ B.zero) (beq_same s t h)
equal_plus_zero (inf s) (fin t n d) h = absurd (false≢true h)
equal_plus_zero (fin s m e) nan h = absurd (false≢true h)
equal_plus_zero (fin s m e) (inf t) h = absurd (false≢true h)
equal_plus_zero (fin s m e) (fin t n d) h =
    let a = m * up e in
    let b = n * up d in
    let h' : T (eqb (a * down d) (b * down e) && (beq s t || eqb (a * down d) 0)) = subst T (sym h) tt in
    let q : a * down d ≡ b * down e = eqb→eq (a * down d) (b * down e) (and_l (eqb (a * down d) (b * down e)) _ h') in
    plus_zero s m e
    ∙ ap (λ (z : Bool). round binary64 z a (down e)) (signs (down_pos e) (down_pos d) s t a b q (and_r (eqb (a * down d) (b * down e)) _ h'))
    ∙ round_same binary64 (t && ltb 0 b) a (down e) b (down d) (down_pos e) (down_pos d) q
    ∙ sym (plus_zero t n d)
