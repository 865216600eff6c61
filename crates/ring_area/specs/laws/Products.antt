-- One product of two values as a long number, and where it goes by their signs.
use Rattle.std.specs.Prelude.{◌≡◌, refl, Bool, true, false, cond, List, ℕ, ◌+◌, ◌-◌, ◌*◌, ◌/◌, ◌%◌, ◌^◌, ◌≤◌, ◌<◌, Float}
use Rattle.std.proofs.Common.{sym, ap, ◌∙◌, subst, ⊎_elim, zero-le, add-zero, zero-mul, mul-zero, mul-pos, mul_assoc, mul_comm, mul_left_comm, arith, pow-add, pow_pos}
use Rattle.std.specs.Float.{binary64}
use Rattle.std.specs.Float.Ieee.{unlike, of_bits}
use Rattle.base.specs.common.laws.Decide.{lt_or_ge}
use Rattle.ring_area.specs.long.Amount.{amount, weight, lifted}
use Rattle.ring_area.specs.long.Steps.{PutIn}
use Rattle.ring_area.specs.long.laws.Amounts.{weight_is, weight_from}
use Rattle.ring_area.specs.long.laws.Puts.{added_then, added_as, roomy_after, roomy_fewer}
use Rattle.ring_area.specs.long.laws.Lifted.{lifted_same, lifted_put}
use Rattle.root.specs.Root.{units}
use Rattle.plane.specs.declared.points.Point.{Point}
use Rattle.ring_area.specs.Area.{below}
use Rattle.ring_area.specs.Span.{InSpan, PatternIn, BothOpen}
use Rattle.ring_area.specs.Steps.{SplitOf, ProductIn, SideIn}

-- two magnitudes
pub product_is : {x y m n p q : ℕ} → SplitOf x m p → SplitOf y n q
    → m * n * 2 ^ ((p + q) % 32) * weight ((p + q) / 32) ≡ units (of_bits binary64 x) * units (of_bits binary64 y)
product_is {x} {y} {m} {n} {p} {q} a b =
    ap (λ (w : ℕ). m * n * 2 ^ ((p + q) % 32) * w) (weight_is ((p + q) / 32))
    ∙ mul_assoc (m * n) (2 ^ ((p + q) % 32)) (2 ^ (32 * ((p + q) / 32)))
    ∙ ap (λ (w : ℕ). m * n * w) (sym (pow-add 2 ((p + q) % 32) (32 * ((p + q) / 32))) ∙ ap (λ (e : ℕ). 2 ^ e) (whole (p + q)) ∙ pow-add 2 p q)
    ∙ apart m n (2 ^ p) (2 ^ q)
    ∙ ap (λ (u : ℕ). u * (n * 2 ^ q)) (sym a.value)
    ∙ ap (λ (u : ℕ). units (of_bits binary64 x) * u) (sym b.value)
  where
    whole : (e : ℕ) → e % 32 + 32 * (e / 32) ≡ e
    whole e = omega arith

    apart : (m n s t : ℕ) → m * n * (s * t) ≡ m * s * (n * t)
    apart m n s t = simp (mul_assoc, mul_comm, mul_left_comm)

-- a significand that is not 0
some_units : {b m p : ℕ} → SplitOf b m p → (m ≡ 0 → ⊥) → 0 < units (of_bits binary64 b)
some_units {b} {m} {p} a n = subst (λ (u : ℕ). 0 < u) (sym a.value) (mul-pos (⊎_elim (λ h. absurd (n (omega arith))) (λ h. h) (lt_or_ge m 1)) (pow_pos p))

-- nothing is added
pub added_none : (l : List ℕ) (n : ℕ) → PutIn l l 0 n
added_none l n = record { total = sym (add-zero (amount l)); long = refl; grown = λ k. omega arith; most = zero-le }

-- a product with 0
module _ {x m p : ℕ} (a : SplitOf x m p) (z : m ≡ 0) where
  none : units (of_bits binary64 x) ≡ 0
  none = a.value ∙ ap (λ (k : ℕ). k * 2 ^ p) z ∙ zero-mul (2 ^ p)

  pub none_left : (l : List ℕ) (y : ℕ) → PutIn l l (units (of_bits binary64 x) * units (of_bits binary64 y)) 8
  none_left l y = added_as (added_none l 8) _ (sym (ap (λ (u : ℕ). u * units (of_bits binary64 y)) none ∙ zero-mul (units (of_bits binary64 y))))

  pub none_right : (l : List ℕ) (y : ℕ) → PutIn l l (units (of_bits binary64 y) * units (of_bits binary64 x)) 8
  none_right l y = added_as (added_none l 8) _ (sym (ap (λ (u : ℕ). units (of_bits binary64 y) * u) none ∙ mul-zero (units (of_bits binary64 y))))

-- ---- where it begins
module _ {from n x y m k p q : ℕ} (a : SplitOf x m p) (b : SplitOf y k q) (A : PatternIn from n x) (B : PatternIn from n y) (M : m ≡ 0 → ⊥) (K : k ≡ 0 → ⊥) where
  first : InSpan from n p
  first = subst (InSpan from n) (sym a.place) (A.some (some_units a M))

  second : InSpan from n q
  second = subst (InSpan from n) (sym b.place) (B.some (some_units b K))

  pub begins : from ≤ (p + q) / 32
  begins = omega (arith, first.low, second.low)

  pub ends : (p + q) / 32 - from + 5 < n
  ends = omega (arith, first.low, second.low, first.high, second.high)

  -- limbs from number `from` on
  pub product_placed : {l l₁ : List ℕ} {w : ℕ} → w ≡ 2 ^ ((p + q) % 32) → PutIn l l₁ (m * k * w * weight ((p + q) / 32 - from)) 8
      → PutIn (lifted from l) (lifted from l₁) (units (of_bits binary64 x) * units (of_bits binary64 y)) 8
  product_placed {w = w} e h =
      added_as (lifted_put from h) _
      (mul_left_comm (weight from) (m * k * w) (weight ((p + q) / 32 - from))
      ∙ ap (λ (v : ℕ). m * k * w * v) (weight_from from ((p + q) / 32) begins)
      ∙ ap (λ (v : ℕ). m * k * v * weight ((p + q) / 32)) e
      ∙ product_is a b)

-- ---- by the signs
like : (s t : Bool) → ◌≡◌ {A = ℕ} (cond s 1 0) (cond t 1 0) → unlike s t ≡ false
like true true e = refl
like true false e = absurd (omega arith)
like false true e = absurd (omega arith)
like false false e = refl

not_like : (s t : Bool) → (◌≡◌ {A = ℕ} (cond s 1 0) (cond t 1 0) → ⊥) → unlike s t ≡ true
not_like true true e = absurd (e refl)
not_like true false e = refl
not_like false true e = refl
not_like false false e = absurd (e refl)

-- a and b are the patterns over 2 ^ 63
module _ (x y : Float) (a b : ℕ) (A : a ≡ cond (below x) 1 0) (B : b ≡ cond (below y) 1 0) {p p₁ : List ℕ} where
  pub product_plus : (m : List ℕ) → a ≡ b → PutIn p p₁ (units x * units y) 8 → ProductIn x y p p₁ m m
  product_plus m e h =
      let s : unlike (below x) (below y) ≡ false = like (below x) (below y) (sym A ∙ e ∙ B) in
      record { added = rw s h; taken = rw s (added_none m 8) }

  pub product_minus : (m : List ℕ) → (a ≡ b → ⊥) → PutIn p p₁ (units x * units y) 8 → ProductIn x y m m p p₁
  product_minus m e h =
      let s : unlike (below x) (below y) ≡ true = not_like (below x) (below y) (λ z. e (A ∙ z ∙ sym B)) in
      record { added = rw s (added_none m 8); taken = rw s h }

-- ---- rooms
pub ready_fewer : {from : ℕ} {p m : List ℕ} (a b : ℕ) → BothOpen from p m (a + b) → BothOpen from p m a
ready_fewer a b r = record { same = r.same; plus = roomy_fewer a b r.plus; minus = roomy_fewer a b r.minus }

pub ready_after : {from : ℕ} {p p₁ m m₁ : List ℕ} {x y a : ℕ} (b : ℕ) → PutIn (lifted from p) (lifted from p₁) x a → PutIn (lifted from m) (lifted from m₁) y a
    → BothOpen from p m (a + b) → BothOpen from p₁ m₁ b
ready_after {from} {p} {p₁} {m} {m₁} b g l r = record {
  same = lifted_same from m₁ m l.long ∙ r.same ∙ sym (lifted_same from p₁ p g.long);
  plus = roomy_after g b r.plus;
  minus = roomy_after l b r.minus;
}

pub ready_turned : {from : ℕ} {p m : List ℕ} {n : ℕ} → BothOpen from p m n → BothOpen from m p n
ready_turned r = record { same = sym r.same; plus = r.minus; minus = r.plus }

-- ---- the two products of a side
pub side_in : {a b : Point} {p p₁ p₂ m m₁ m₂ : List ℕ} → ProductIn a.y b.x p p₁ m m₁ → ProductIn a.x b.y m₁ m₂ p₁ p₂ → SideIn a b p p₂ m m₂
side_in x y = record { added = added_then x.added y.taken; taken = added_then x.taken y.added }
