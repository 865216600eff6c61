-- Equality of floats by value is symmetric (`eq_back`), and two floats that equal a third are equal (`eq_both`); so of places (`place_back`, `place_both`).
use Rattle.std.specs.Prelude.{◌≡◌, refl, Bool, true, false, ◌&&◌, ◌||◌, ◌⊎◌, ℕ, ◌*◌, ◌/◌, ◌<◌, eqb, Float}
use Rattle.std.proofs.Common.{sym, ap, ◌∙◌, inl, inr, ⊎_elim, mul-div_cancel, eq-zero-or-pos, mul-pos, arith, eq-eqb, eqb-true}
use Rattle.std.specs.Bool.{beq}
use Rattle.std.proofs.lemmas.Bool.{false≢true}
use Rattle.std.specs.Float.{nan, inf, fin}
use Rattle.std.specs.Float.Ieee.{up, down, lt, eq}
use Rattle.std.specs.Float.Ieee.Fits.{down_pos}
use Rattle.base.specs.common.laws.And.{and_left, and_right}
use Rattle.plane.specs.declared.points.Point.{Point}
use Rattle.cutting.specs.pen.Pen.{same_place}

both : (x y : Bool) → x ≡ true → y ≡ true → (x && y) ≡ true
both x y p q = rw (p, q) refl

-- ---- finite ones: the same number, and the same sign but for zeros
abbrev Level : Bool → ℕ → Bool → ℕ → Type 0
Level s a t c = (a ≡ c) × ((s ≡ t) ⊎ (a ≡ 0))

same_sign : (s t z : Bool) → (beq s t || z) ≡ true → (s ≡ t) ⊎ (z ≡ true)
same_sign s t true k = inr refl
same_sign true true false k = inl refl
same_sign true false false k = absurd (false≢true k)
same_sign false true false k = absurd (false≢true k)
same_sign false false false k = inl refl

sign_same : (s t z : Bool) → (s ≡ t) ⊎ (z ≡ true) → (beq s t || z) ≡ true
sign_same s t z (inr q) = rw q (go s t)
  where
    go : (s t : Bool) → (beq s t || true) ≡ true
    go true true = refl
    go true false = refl
    go false true = refl
    go false false = refl
sign_same true t z (inl q) = rw (← q) refl
sign_same false t z (inl q) = rw (← q) refl

to_level : (s : Bool) (a : ℕ) (t : Bool) (c : ℕ) → (eqb a c && (beq s t || eqb a 0)) ≡ true → Level s a t c
to_level s a t c h = (
  eqb-true a c (and_left (eqb a c) (beq s t || eqb a 0) h),
  ⊎_elim (λ q. inl q) (λ q. inr (eqb-true a 0 q)) (same_sign s t (eqb a 0) (and_right (eqb a c) (beq s t || eqb a 0) h)),
)

of_level : (s : Bool) (a : ℕ) (t : Bool) (c : ℕ) → Level s a t c → (eqb a c && (beq s t || eqb a 0)) ≡ true
of_level s a t c h =
    both (eqb a c) (beq s t || eqb a 0) (eq-eqb a c h.0) (sign_same s t (eqb a 0) (⊎_elim (λ q. inl q) (λ q. inr (eq-eqb a 0 q)) h.1))

beq_same : (s t : Bool) → beq s t ≡ true → s ≡ t
beq_same true true h = refl
beq_same true false h = absurd (false≢true h)
beq_same false true h = absurd (false≢true h)
beq_same false false h = refl

same_beq : (s t : Bool) → s ≡ t → beq s t ≡ true
same_beq true t q = rw (← q) refl
same_beq false t q = rw (← q) refl

no_factor : (a d : ℕ) → 0 < d → a * d ≡ 0 → a ≡ 0
no_factor a d h q = ⊎_elim (λ e. e) (λ p. absurd (omega (arith, mul-pos p h))) (eq-zero-or-pos a)

pub eq_back : (x y : Float) → eq x y ≡ true → eq y x ≡ true
unfolding eq
eq_back nan y h = absurd (false≢true h)
eq_back (inf s) nan h = absurd (false≢true h)
eq_back (inf s) (inf t) h = same_beq t s (sym (beq_same s t h))
eq_back (inf s) (fin t n d) h = absurd (false≢true h)
eq_back (fin s m e) nan h = absurd (false≢true h)
eq_back (fin s m e) (inf t) h = absurd (false≢true h)
eq_back (fin s m e) (fin t n d) h =
    let l = to_level s (m * up e * down d) t (n * up d * down e) h in
    of_level t (n * up d * down e) s (m * up e * down d) (sym l.0, ⊎_elim (λ q. inl (sym q)) (λ q. inr (sym l.0 ∙ q)) l.1)

-- a d = c e and k d = c f give a f = k e
cancelled : (a c k d e f : ℕ) → 0 < d → a * d ≡ c * e → k * d ≡ c * f → a * f ≡ k * e
cancelled a c k d e f hd p q =
    let over : a * f * d ≡ k * e * d = omega (arith, ap (λ (z : ℕ). z * f) p, ap (λ (z : ℕ). z * e) q) in
    sym (mul-div_cancel (a * f) hd) ∙ ap (λ (z : ℕ). z / d) over ∙ mul-div_cancel (k * e) hd

pub eq_both : (x y z : Float) → eq x y ≡ true → eq z y ≡ true → eq x z ≡ true
unfolding eq
eq_both nan y z h k = absurd (false≢true h)
eq_both (inf s) nan z h k = absurd (false≢true h)
eq_both (inf s) (inf t) nan h k = absurd (false≢true k)
eq_both (inf s) (inf t) (inf u) h k = same_beq s u (beq_same s t h ∙ sym (beq_same u t k))
eq_both (inf s) (inf t) (fin u l f) h k = absurd (false≢true k)
eq_both (inf s) (fin t n d) z h k = absurd (false≢true h)
eq_both (fin s m e) nan z h k = absurd (false≢true h)
eq_both (fin s m e) (inf t) z h k = absurd (false≢true h)
eq_both (fin s m e) (fin t n d) nan h k = absurd (false≢true k)
eq_both (fin s m e) (fin t n d) (inf u) h k = absurd (false≢true k)
eq_both (fin s m e) (fin t n d) (fin u l f) h k =
    let p = to_level s (m * up e * down d) t (n * up d * down e) h in
    let q = to_level u (l * up f * down d) t (n * up d * down f) k in
    let c : m * up e * down f ≡ l * up f * down e = cancelled (m * up e) (n * up d) (l * up f) (down d) (down e) (down f) (down_pos d) p.0 q.0 in
    of_level s (m * up e * down f) u (l * up f * down e) (
      c,
      ⊎_elim
          (λ v. ⊎_elim
          (λ w. inl (v ∙ sym w))
          (λ w. inr (c ∙ rw (no_factor (l * up f) (down d) (down_pos d) w) (omega arith)))
          q.1)
          (λ v. inr (rw (no_factor (m * up e) (down d) (down_pos d) v) (omega arith)))
          p.1,
    )

pub place_back : (p q : Point) → same_place p q ≡ true → same_place q p ≡ true
place_back p q h =
    both (eq q.x p.x) (eq q.y p.y) (eq_back p.x q.x (and_left (eq p.x q.x) (eq p.y q.y) h))
    (eq_back p.y q.y (and_right (eq p.x q.x) (eq p.y q.y) h))

pub place_both : (p q z : Point) → same_place p q ≡ true → same_place z q ≡ true → same_place p z ≡ true
place_both p q z h k =
    both (eq p.x z.x) (eq p.y z.y)
    (eq_both p.x q.x z.x (and_left (eq p.x q.x) (eq p.y q.y) h) (and_left (eq z.x q.x) (eq z.y q.y) k))
    (eq_both p.y q.y z.y (and_right (eq p.x q.x) (eq p.y q.y) h) (and_right (eq z.x q.x) (eq z.y q.y) k))

-- ---- what is compared is equal to itself
beq_self : (s : Bool) → beq s s ≡ true
beq_self true = refl
beq_self false = refl

pub low_equal : (x y : Float) → lt x y ≡ true → eq x x ≡ true
unfolding lt eq
low_equal nan y h = absurd (false≢true h)
low_equal (inf s) y h = beq_self s
low_equal (fin s m e) y h = of_level s (m * up e * down e) s (m * up e * down e) (refl, inl refl)

pub high_equal : (x y : Float) → lt x y ≡ true → eq y y ≡ true
unfolding lt eq
high_equal nan y h = absurd (false≢true h)
high_equal (inf s) nan h = absurd (false≢true h)
high_equal (inf s) (inf t) h = beq_self t
high_equal (inf s) (fin t n d) h = of_level t (n * up d * down d) t (n * up d * down d) (refl, inl refl)
high_equal (fin s m e) nan h = absurd (false≢true h)
high_equal (fin s m e) (inf t) h = beq_self t
high_equal (fin s m e) (fin t n d) h = of_level t (n * up d * down d) t (n * up d * down d) (refl, inl refl)
