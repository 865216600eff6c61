-- A sum over 2^2149 that is rounded to nothing, and one that is not; twice a number; two sums that are far apart.
use Rattle.std.specs.Prelude.{◌≡◌, refl}
use Rattle.std.proofs.Common.{sym, ap, ◌∙◌, ⊎_elim, le_of_eq, lt_of_lt_of_le, lt_of_le_of_lt, one-mul, suc-mul, div-lt_iff_lt-mul, mod-eq_of_lt, mul-le-mul_right, arith, lit<, pow-add}
use Prim.{tt}
use Prim.Native.Nat.{ℕ, suc, ◌+◌, ◌-◌, ◌*◌, ◌/◌, ◌%◌, ◌^◌, ◌≤◌, ◌<◌, compare, Ordering}
use Rattle.std.proofs.Math.Arith.{lt-one}
use Rattle.std.specs.Float.Ieee.{nearest}
use Rattle.std.specs.Float.Ieee.Nearest.{closest, nearest-ge}
use Rattle.base.specs.common.laws.Decide.{lt_or_ge}
use Rattle.ring_area.specs.half.Half.{Cmp, cmp}

-- ---- n units of 2 ^ -2149 against half of the smallest value, 2 ^ 1074 of them; a pattern without its sign is 0 for 0 only (`round_pattern` of ring_area::rounded)
-- the nearest whole number below a half, at a half, above it
pub down : (n b : ℕ) → n < b → n * 2 ≤ b → closest n b ≡ 0
down n b l h =
    let q : n / b ≡ 0 = lt-one ((div-lt_iff_lt-mul (lt_of_le_of_lt zero_least l)).1 (lt_of_lt_of_le l (le_of_eq (sym (one-mul b))))) in
    let r : n % b ≡ n = mod-eq_of_lt l in
    ap (λ (x : ℕ). nearest x (compare (n % b * 2) b)) q ∙ ap (λ (x : ℕ). nearest 0 (compare (x * 2) b)) r ∙ go (compare (n * 2) b) (cmp (n * 2) b)
  where
    zero_least : {n : ℕ} → 0 ≤ n
    zero_least = omega arith

    go : (o : Ordering) → Cmp o (n * 2) b → nearest 0 o ≡ 0
    go Ordering.lt c = refl
    go Ordering.eq c = refl
    go Ordering.gt c = absurd (omega arith)

pub up : (n b : ℕ) → 0 < b → b < n * 2 → 0 < closest n b
up n b B h = ⊎_elim small large (lt_or_ge n b)
  where
    large : b ≤ n → 0 < closest n b
    large g = lt_of_lt_of_le (some n b B g) (nearest-ge (n / b) (compare (n % b * 2) b))
      where
        some : (n b : ℕ) → 0 < b → b ≤ n → 0 < n / b
        some n b B g = ⊎_elim (λ z. absurd (no z)) (λ z. z) (lt_or_ge (n / b) 1)
          where
            no : n / b < 1 → ⊥
            no z = let y : n < 1 * b = (div-lt_iff_lt-mul B).0 z in omega arith

    small : n < b → 0 < closest n b
    small l =
        let q : n / b ≡ 0 = lt-one ((div-lt_iff_lt-mul B).1 (lt_of_lt_of_le l (le_of_eq (sym (one-mul b))))) in
        let r : n % b ≡ n = mod-eq_of_lt l in
        lt_of_lt_of_le (go (compare (n * 2) b) (cmp (n * 2) b))
        (le_of_eq (sym (ap (λ (x : ℕ). nearest x (compare (n % b * 2) b)) q ∙ ap (λ (x : ℕ). nearest 0 (compare (x * 2) b)) r)))
      where
        go : (o : Ordering) → Cmp o (n * 2) b → 0 < nearest 0 o
        go Ordering.lt c = absurd (omega arith)
        go Ordering.eq c = absurd (omega arith)
        go Ordering.gt c = lit< tt

pub twice : 2 ^ 1074 * 2 ≡ 2 ^ 1075
twice = sym (pow-add 2 1074 1)

-- the difference of two multiples of w is w or more
pub apart : (g l w a b : ℕ) → g ≡ a * w → l ≡ b * w → l < g → w ≤ g - l
apart g l w a b x y h = ⊎_elim some (λ z. absurd (no z)) (lt_or_ge b a)
  where
    some : b < a → w ≤ g - l
    some z =
        let m : suc b * w ≤ a * w = mul-le-mul_right w z in
        let e : suc b * w ≡ b * w + w = suc-mul b w in
        omega arith

    no : a ≤ b → ⊥
    no z = let m : a * w ≤ b * w = mul-le-mul_right w z in omega arith
