-- Limbs that hold a ring, their carries settled, and the difference of the larger sum and the smaller.
use Rattle.std.specs.Prelude.{◌≡◌, true, false, List, map, Float, length, get_or, take, replicate}
use Rattle.std.proofs.Math.Path.{refl, ap}
use Rattle.std.proofs.Common.{sym, ◌∙◌, subst, le_trans, le_of_eq, mul-le-mul_right, get_or-take, length-take-le, le-leb}
use Rattle.std.proofs.Math.Logic.{⊎_elim}
use Prim.Native.Nat.{ℕ, zero, suc, ◌+◌, ◌-◌, ◌*◌, ◌^◌, ◌≤◌, ◌<◌}
use Rattle.std.proofs.Math.Nat.{add-zero, zero-mul, suc-mul, one-mul, lt_of_mul-lt-mul_left}
use native.Mathlib.Omega.{arith}
use Rattle.std.specs.Float.{binary64}
use Rattle.std.specs.Float.Ieee.{round}
use Rattle.std.proofs.lemmas.List.{length-replicate}
use Rattle.std.proofs.Math.ListN.{get_or-eq_default}
use Rattle.std.proofs.lemmas.Bool.{lt-leb}
use Rattle.base.specs.common.laws.Decide.{lt_or_ge}
use Rattle.ring_area.specs.long.Amount.{base, amount, weight, lifted, WholeLimbs}
use Rattle.ring_area.specs.long.Steps.{PutRoom, PutIn, Carried, Differs}
use Rattle.ring_area.specs.long.laws.Amounts.{weight_add, weight_pos, amount_none}
use Rattle.ring_area.specs.long.laws.Lifted.{lifted_amount, lifted_long, lifted_same, lifted_below, lifted_at, lifted_whole, lifted_room}
use Rattle.plane.specs.points.Flat.{point_at}
use Rattle.ring_area.specs.Area.{rounded_half}
use Rattle.ring_area.specs.Span.{BothOpen}
use Rattle.ring_area.specs.Steps.{RingIn, gains_of, losses_of}
use Rattle.ring_area.specs.laws.Settles.{zeros, none, not_out, none_out, under_weight}
use Rattle.ring_area.specs.rounding.Steps.{AllZero, SumHeld}

-- ---- limbs that hold a ring
pub zeros_part : (n k : ℕ) → k ≤ n → AllZero (take k (replicate n 0)) k
zeros_part n k h = record {
  long = length-take-le k (zeros n) (le_trans h (le_of_eq (sym (length-replicate {A = ℕ} n 0))));
  each = λ i. ⊎_elim
      (λ g. get_or-take k (zeros n) i 0 g ∙ none n i)
      (λ g. get_or-eq_default (take k (zeros n)) 0 (le_trans (le_of_eq (length-take-le k (zeros n) (le_trans h (le_of_eq (sym (length-replicate {A = ℕ} n 0)))))) g))
      (lt_or_ge i k);
}

module _ (from : ℕ) {l : List ℕ} {n : ℕ} (z : AllZero l n) where
  lifted_zero : (k : ℕ) → get_or (lifted from l) k 0 ≡ 0
  lifted_zero k = ⊎_elim (lifted_below from l k) (λ h. lifted_at from l k h ∙ z.each (k - from)) (lt_or_ge k from)

  zero_ready : (puts : ℕ) → puts ≤ 2 ^ 28 → PutRoom (lifted from l) puts
  zero_ready puts h = record { each = λ k. omega (arith, lifted_zero k) }

  module _ (l₁ : List ℕ) {x puts : ℕ} (a : PutIn (lifted from l) (lifted from l₁) x puts) where
    pub sum_is : amount (lifted from l₁) ≡ x
    sum_is = a.total ∙ ap (λ (y : ℕ). y + x) (amount_none (lifted from l) lifted_zero) ∙ plain x
      where
        plain : (x : ℕ) → 0 + x ≡ x
        plain x = omega arith

    pub sum_long : length l₁ ≡ n
    sum_long = lifted_same from l₁ l a.long ∙ z.long

    pub sum_fits : puts ≤ 2 ^ 28 → SumHeld l₁
    sum_fits h = record {
      room = lifted_room from (record { each = λ k. omega (arith, a.grown k, lifted_zero k) });
      fits = subst (λ (k : ℕ). amount l₁ < weight k) (sym sum_long) (lt_of_mul-lt-mul_left (weight from) (below (weight from * amount l₁) (weight from * weight n) some most));
    }
      where
        some : 0 < weight from * weight n
        some = subst (λ (y : ℕ). 0 < y) (weight_add from n) (weight_pos (from + n))

        most : base * (weight from * amount l₁) ≤ puts * (weight from * weight n)
        most =
            subst (λ (y : ℕ). base * y ≤ puts * (weight from * weight n)) (sym sum_is ∙ lifted_amount from l₁)
            (subst (λ (w : ℕ). base * x ≤ puts * w) (ap weight (lifted_long from l ∙ ap (λ (k : ℕ). from + k) z.long) ∙ weight_add from n) a.most)

        below : (y w : ℕ) → 0 < w → base * y ≤ puts * w → y < w
        below y w g e = let f : puts * w ≤ 2 ^ 28 * w = mul-le-mul_right w h in omega arith

pub ready_zeros : (from : ℕ) {p m : List ℕ} {n puts : ℕ} → AllZero p n → AllZero m n → puts ≤ 2 ^ 28 → BothOpen from p m puts
ready_zeros from {puts = puts} a b h = record { same = b.long ∙ sym a.long; plus = zero_ready from a puts h; minus = zero_ready from b puts h }

pub sums_are : (from : ℕ) {p m : List ℕ} {n : ℕ} → AllZero p n → AllZero m n → (p₁ m₁ : List ℕ) {v : List Float} {cell : List ℕ}
    → RingIn v cell (lifted from p) (lifted from p₁) (lifted from m) (lifted from m₁)
    → rounded_half (amount (lifted from p₁)) (amount (lifted from m₁)) ≡ rounded_half (gains_of (map (point_at v) cell)) (losses_of (map (point_at v) cell))
sums_are from a b p₁ m₁ {v} {cell} r =
    ap (λ (k : ℕ). rounded_half k (amount (lifted from m₁))) (sum_is from a p₁ r.added) ∙ ap (rounded_half (gains_of (map (point_at v) cell))) (sum_is from b m₁ r.taken)

pub few_puts : (n : ℕ) → n ≤ 2 ^ 24 → 16 * n ≤ 2 ^ 28
few_puts n h = omega arith

-- a whole long number
pub whole_half : (p m : List ℕ) → rounded_half (amount (lifted 0 p)) (amount (lifted 0 m)) ≡ rounded_half (amount p) (amount m)
unfolding lifted
whole_half p m = refl

-- the carries leave the number as it is
pub settled_same : {l l₁ : List ℕ} {c : ℕ} (from : ℕ) → SumHeld l → Carried l l₁ c → amount (lifted from l₁) ≡ amount (lifted from l)
settled_same {l} {l₁} {c} from s h =
    let z : c ≡ 0 = not_out (amount l₁) (amount l) c (weight (length l)) h.total s.fits in
    lifted_amount from l₁ ∙ ap (λ (x : ℕ). weight from * x) (none_out (amount l₁) (weight (length l)) z h.total) ∙ sym (lifted_amount from l)

-- ---- the difference
module _ (p m : ℕ) where
  pub settled_plus : (o r w : ℕ) → r ≡ 0 → o + m ≡ p + r * w → round binary64 false o (2 ^ 2149) ≡ rounded_half p m
  unfolding rounded_half
  settled_plus o r w z e =
      let f : o + m ≡ p = e ∙ ap (λ (k : ℕ). p + k) (ap (λ (k : ℕ). k * w) z ∙ zero-mul w) ∙ add-zero p in
      let d : p - m ≡ o = omega arith in
      rw (le-leb m p (omega arith), d) refl

  pub settled_minus : (o r o₁ r₁ w : ℕ) → (r ≡ 0 → ⊥) → r ≤ 1 → o < w → o + m ≡ p + r * w → r₁ ≤ 1 → o₁ < w → o₁ + p ≡ m + r₁ * w
      → round binary64 true o₁ (2 ^ 2149) ≡ rounded_half p m
  unfolding rounded_half
  settled_minus o r o₁ r₁ w n h l e h₁ l₁ e₁ =
      let one : r ≡ 1 = ⊎_elim (λ x. absurd (n (omega arith))) (λ x. omega arith) (lt_or_ge r 1) in
      let f : o + m ≡ p + w = e ∙ ap (λ (k : ℕ). p + k) (ap (λ (k : ℕ). k * w) one ∙ one-mul w) in
      let more : p < m = omega arith in
      let q : r₁ * w ≡ 0 = none_back r₁ h₁ e₁ more l₁ in
      let d : m - p ≡ o₁ = omega arith in
      rw (lt-leb m p more, d) refl
    where
      none_back : (r : ℕ) → r ≤ 1 → o₁ + p ≡ m + r * w → p < m → o₁ < w → r * w ≡ 0
      none_back zero h e k l = zero-mul w
      none_back (suc r) h e k l = let x : suc r * w ≡ r * w + w = suc-mul r w in absurd (omega arith)

-- what is left can be rounded
pub differ_roundable : (from : ℕ) {a b l l₁ : List ℕ} {r : ℕ} → Differs a b l l₁ r → from + length l ≤ 94 → WholeLimbs (lifted from l₁) × (length (lifted from l₁) ≤ 94)
differ_roundable from {l₁ = l₁} d h = (lifted_whole from d.settled, omega (arith, lifted_long from l₁, d.long))

module _ {p m b o : List ℕ} {r : ℕ} (d : Differs p m b o r) where
  pub differ_plus : r ≡ 0 → round binary64 false (amount o) (2 ^ 2149) ≡ rounded_half (amount p) (amount m)
  differ_plus z = settled_plus (amount p) (amount m) (amount o) r (weight (length b)) z d.total

  pub differ_minus : {o₁ : List ℕ} {r₁ : ℕ} → (r ≡ 0 → ⊥) → Differs m p o o₁ r₁ → round binary64 true (amount o₁) (2 ^ 2149) ≡ rounded_half (amount p) (amount m)
  differ_minus {o₁} {r₁} n e =
      let w : weight (length o) ≡ weight (length b) = ap weight d.long in
      settled_minus (amount p) (amount m) (amount o) r (amount o₁) r₁ (weight (length b)) n d.borrowed (subst (λ (x : ℕ). amount o < x) w (under_weight o d.settled)) d.total
      e.borrowed (subst (λ (x : ℕ). amount o₁ < x) (ap weight e.long ∙ w) (under_weight o₁ e.settled)) (e.total ∙ ap (λ (x : ℕ). amount m + r₁ * x) w)
