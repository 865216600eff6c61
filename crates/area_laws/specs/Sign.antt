-- Theorem: the sign is the truth. The answer is 0 exactly where the exact area is at most 2 ^ -1075 in magnitude, half of the smallest value (`sign_none`, `sign_some`); and where
-- all coordinates are multiples of 2 ^ -500 an exact area that is not 0 is far above that (`surveyed`).
use Rattle.std.specs.Prelude.{◌≡◌, Bool, true, false, cond, ℕ, ◌+◌, ◌-◌, ◌*◌, ◌/◌, ◌^◌, ◌≤◌, ◌<◌}
use Rattle.std.proofs.Common.{sym, ap, ◌∙◌, subst, ⊎_elim, le_trans, le_of_eq, lt_of_lt_of_le, lt_of_le_of_lt, mul_assoc, mul_comm, mul_left_comm, mul-one, zero-mul, one-mul, add-mul, div-lt_iff_lt-mul, mul-le-mul_right, arith, lit≤, pow-add, pow_pos}
use mathlib.Core.List.{List, [], ◌∷◌}
use Prim.{tt}
use Rattle.std.proofs.Math.Arith.{lt-one}
use Rattle.std.specs.Float.Ieee.{size, unlike}
use Rattle.std.specs.Float.Ieee.Nearest.{closest}
use Rattle.std.specs.Float.Ieee.Order.{drop, kept}
use Rattle.std.proofs.Math.Pow.{pow-lt}
use Rattle.base.specs.common.laws.Decide.{lt_or_ge, eq_or_ne}
use Rattle.ring_area.specs.rounded.Rounded.{rounded_pattern}
use Rattle.ring_area.specs.rounded.laws.Patterns.{kept_least}
use Rattle.ring_area.specs.rounded.laws.Sizes.{size_zero}
use Rattle.root.specs.Root.{units}
use Rattle.plane.specs.declared.points.Point.{Point}
use Rattle.ring_area.specs.Area.{below, gain, loss, gains, losses}
use Rattle.area_laws.specs.laws.Halves.{down, up, twice, apart}

-- at most half of the smallest value: nothing is left
pub sign_none : (n : ℕ) → n ≤ 2 ^ 1074 → rounded_pattern n ≡ 0
sign_none n h =
    let l : n < 2 ^ 1075 = lt_of_le_of_lt h (pow-lt {i = 1074} {j = 1075} (lit≤ tt)) in
    let q : n / 2 ^ 1075 ≡ 0 = lt-one ((div-lt_iff_lt-mul (pow_pos 1075)).1 (lt_of_lt_of_le l (le_of_eq (sym (one-mul (2 ^ 1075)))))) in
    let d : drop 53 n (2 ^ 1075) ≡ 0 = ap (λ (x : ℕ). size x - 53) q ∙ ap (λ (x : ℕ). x - 53) size_zero in
    let k : closest n (2 ^ 1075 * 2 ^ 0) ≡ 0 = ap (λ (x : ℕ). closest n x) (mul-one (2 ^ 1075)) ∙ down n (2 ^ 1075) l (le_trans (mul-le-mul_right 2 h) (le_of_eq twice)) in
    ap (λ (x : ℕ). x * 2 ^ 52 + closest n (2 ^ 1075 * 2 ^ x)) d ∙ ap (λ (x : ℕ). 0 * 2 ^ 52 + x) k

-- more than that: something is
pub sign_some : (n : ℕ) → 2 ^ 1074 < n → 0 < rounded_pattern n
sign_some n h = ⊎_elim none some (eq_or_ne (drop 53 n (2 ^ 1075)) 0)
  where
    add : (a b : ℕ) → 0 < b → 0 < a + b
    add a b h = omega arith

    none : drop 53 n (2 ^ 1075) ≡ 0 → 0 < rounded_pattern n
    none d =
        let k : kept 53 n (2 ^ 1075) ≡ closest n (2 ^ 1075) = ap (λ (x : ℕ). closest n (2 ^ 1075 * 2 ^ x)) d ∙ ap (λ (x : ℕ). closest n x) (mul-one (2 ^ 1075)) in
        add (drop 53 n (2 ^ 1075) * 2 ^ 52) (kept 53 n (2 ^ 1075))
        (subst (λ (x : ℕ). 0 < x) (sym k) (up n (2 ^ 1075) (pow_pos 1075) (lt_of_le_of_lt (le_of_eq (sym twice)) (doubled (2 ^ 1074) n h))))
      where
        doubled : (a n : ℕ) → a < n → a * 2 < n * 2
        doubled a n h = omega arith

    some : (drop 53 n (2 ^ 1075) ≡ 0 → ⊥) → 0 < rounded_pattern n
    some z = add (drop 53 n (2 ^ 1075) * 2 ^ 52) (kept 53 n (2 ^ 1075)) (lt_of_lt_of_le (pow_pos 52) (kept_least n (2 ^ 1075) (above_none (drop 53 n (2 ^ 1075)) z)))
      where
        above_none : (k : ℕ) → (k ≡ 0 → ⊥) → 0 < k
        above_none k z = ⊎_elim (λ a. absurd (z (omega arith))) (λ a. a) (lt_or_ge k 1)

-- ---- coordinates that are multiples of 2 ^ -500, so of 2 ^ 574 units
pub record Coarse (p : Point) : Type 0 where
  pub across : ℕ
  pub along : ℕ
  pub x : units p.x ≡ across * 2 ^ 574
  pub y : units p.y ≡ along * 2 ^ 574

abbrev pub AllCoarse : List Point → Type 0
AllCoarse [] = Unit {0}
AllCoarse (p ∷ r) = Coarse p × AllCoarse r

-- a multiple of 2 ^ 1148
pub record Many (n : ℕ) : Type 0 where
  pub times : ℕ
  pub value : n ≡ times * 2 ^ 1148

many_add : {n m : ℕ} → Many n → Many m → Many (n + m)
many_add {n} {m} a b = record {
  times = a.times + b.times;
  value = ap (λ (x : ℕ). x + m) a.value ∙ ap (λ (x : ℕ). a.times * 2 ^ 1148 + x) b.value ∙ sym (add-mul a.times b.times (2 ^ 1148));
}

many_none : Many 0
many_none = record { times = 0; value = sym (zero-mul (2 ^ 1148)) }

many_product : {n m : ℕ} (a b : ℕ) → n ≡ a * 2 ^ 574 → m ≡ b * 2 ^ 574 → Many (n * m)
many_product {n} {m} a b x y = record {
  times = a * b;
  value = ap (λ (k : ℕ). k * m) x ∙ ap (λ (k : ℕ). a * 2 ^ 574 * k) y ∙ apart a b (2 ^ 574) ∙ ap (λ (k : ℕ). a * b * k) (sym (pow-add 2 574 574));
}
  where
    apart : (a b w : ℕ) → a * w * (b * w) ≡ a * b * (w * w)
    apart a b w = simp (mul_assoc, mul_comm, mul_left_comm)

either : (s : Bool) {n m : ℕ} → Many n → Many m → Many (cond s n m)
either true a b = a
either false a b = b

module _ (p q : Point) (a : Coarse p) (b : Coarse q) where
  many_gain : Many (gain p q)
  many_gain =
      many_add (either (unlike (below p.y) (below q.x)) many_none (many_product a.along b.across a.y b.x))
      (either (unlike (below p.x) (below q.y)) (many_product a.across b.along a.x b.y) many_none)

  many_loss : Many (loss p q)
  many_loss =
      many_add (either (unlike (below p.y) (below q.x)) (many_product a.along b.across a.y b.x) many_none)
      (either (unlike (below p.x) (below q.y)) many_none (many_product a.across b.along a.x b.y))

module _ (a : Point) (A : Coarse a) where
  many_gains : (p : Point) (r : List Point) → Coarse p → AllCoarse r → Many (gains a p r)
  unfolding gains
  many_gains p [] P h = many_gain p a P A
  many_gains p (q ∷ r) P h = many_add (many_gain p q P h.0) (many_gains q r h.0 h.1)

  many_losses : (p : Point) (r : List Point) → Coarse p → AllCoarse r → Many (losses a p r)
  unfolding losses
  many_losses p [] P h = many_loss p a P A
  many_losses p (q ∷ r) P h = many_add (many_loss p q P h.0) (many_losses q r h.0 h.1)

-- exact areas that are not 0 are at least 2 ^ 1148 units, so more than 2 ^ 1074
pub surveyed : (p : Point) (r : List Point) → Coarse p → AllCoarse r → losses p p r < gains p p r → 2 ^ 1074 < gains p p r - losses p p r
surveyed p r P h l = lt_of_lt_of_le (pow-lt {i = 1074} {j = 1148} (lit≤ tt)) (apart (gains p p r) (losses p p r) (2 ^ 1148) _ _ (many_gains p P p r P h).value (many_losses p P p r P h).value l)

pub surveyed_minus : (p : Point) (r : List Point) → Coarse p → AllCoarse r → gains p p r < losses p p r → 2 ^ 1074 < losses p p r - gains p p r
surveyed_minus p r P h l =
    lt_of_lt_of_le (pow-lt {i = 1074} {j = 1148} (lit≤ tt))
    (apart (losses p p r) (gains p p r) (2 ^ 1148) _ _ (many_losses p P p r P h).value (many_gains p P p r P h).value l)
