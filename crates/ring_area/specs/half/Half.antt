-- Theorem: one rounding's error is at most half a unit of the last place kept, so at most one part in 2 ^ 53 of the value where any digit is dropped. Assumes nothing.
use Rattle.std.specs.Prelude.{◌≡◌, not, T, eqb}
use Rattle.std.proofs.Common.{sym, ap, ◌∙◌, subst, le_trans, le_of_eq, add-mul, one-mul, mul-le-mul_right, mul_assoc, mul_comm, mul_left_comm, mul-pos, div-add-mod', mod-lt, le-div_iff_mul-le, arith, leb→le, eqb→eq, pow-add, pow_pos}
use Prim.{tt}
use Prim.Native.Nat.{ℕ, ◌+◌, ◌-◌, ◌*◌, ◌/◌, ◌%◌, ◌^◌, ◌≤◌, ◌<◌, compare, Ordering}
use Rattle.std.proofs.Math.Dec.{is_le, compare_is_eq, nleb→lt, eqb_refl}
use Rattle.std.proofs.Math.Arith.{lt_of_le-ne}
use Rattle.std.specs.Float.Ieee.{size, nearest}
use Rattle.std.specs.Float.Ieee.Digits.{size_reaches}
use Rattle.std.specs.Float.Ieee.Nearest.{closest}
use Rattle.std.specs.Float.Ieee.Order.{drop, kept}

-- what `compare` says
abbrev pub Cmp : Ordering → ℕ → ℕ → Type 0
Cmp Ordering.lt a b = a < b
Cmp Ordering.eq a b = a ≡ b
Cmp Ordering.gt a b = b < a

pub cmp : (a b : ℕ) → Cmp (compare a b) a b
cmp a b = go (compare a b) (leb→le a b) (nleb→lt a b) (eqb→eq a b) (λ (e : a ≡ b). subst (λ (x : ℕ). T (eqb a x)) e (eqb_refl a))
  where
    go : (o : Ordering) → (T (is_le o) → a ≤ b) → (T (not (is_le o)) → b < a) → (T (compare_is_eq o) → a ≡ b) → (a ≡ b → T (compare_is_eq o)) → Cmp o a b
    go Ordering.lt h k e n = lt_of_le-ne (h tt) n
    go Ordering.eq h k e n = e tt
    go Ordering.gt h k e n = k tt

-- n is within a half of a / b
pub record WithinHalf (n a b : ℕ) : Type 0 where
  pub most : n * b * 2 ≤ a * 2 + b
  pub least : a * 2 ≤ n * b * 2 + b

-- a whole part q, a remainder r / b
tie : (q : ℕ) → q % 2 ≤ 1
tie q = omega arith

within : (q r b a : ℕ) (o : Ordering) → Cmp o (r * 2) b → q * b + r ≡ a → r < b → WithinHalf (nearest q o) a b
within q r b a Ordering.lt c e l = record { most = omega arith; least = omega arith }
within q r b a Ordering.eq c e l =
    let s : (q + q % 2) * b ≡ q * b + q % 2 * b = add-mul q (q % 2) b in
    let t : q % 2 * b ≤ b = le_trans (mul-le-mul_right b (tie q)) (le_of_eq (one-mul b)) in
    record { most = omega (arith, s, t); least = omega (arith, s, t) }
within q r b a Ordering.gt c e l =
    let s : (q + 1) * b ≡ q * b + 1 * b = add-mul q 1 b in
    let t : 1 * b ≡ b = one-mul b in
    record { most = omega (arith, s, t); least = omega (arith, s, t) }

pub closest_within : (a b : ℕ) → 0 < b → WithinHalf (closest a b) a b
closest_within a b B = within (a / b) (a % b) b a (compare (a % b * 2) b) (cmp (a % b * 2) b) (div-add-mod' a b) (mod-lt a B)

-- n / c with p digits kept: what is kept, in units, is within half of 2 ^ drop units
pub kept_within : (p n c : ℕ) → 0 < c → WithinHalf (kept p n c) n (c * 2 ^ drop p n c)
kept_within p n c C = closest_within n (c * 2 ^ drop p n c) (mul-pos C (pow_pos (drop p n c)))

-- and where a digit is dropped, 2 ^ drop units are at most n / c over 2 ^ (p - 1)
pub dropped : (p n c : ℕ) → 0 < c → 0 < p → 0 < drop p n c → 2 ^ (p - 1) * (c * 2 ^ drop p n c) ≤ n
dropped p n c C P D =
    let j = drop p n c in
    let w : 2 ^ (p - 1 + j) * c ≤ n = (le-div_iff_mul-le C).0 (size_reaches (n / c) (p - 1 + j) (long (size (n / c)) p P D)) in
    let e : 2 ^ (p - 1 + j) ≡ 2 ^ (p - 1) * 2 ^ j = pow-add 2 (p - 1) j in
    le_trans (le_of_eq ((simp (mul_assoc, mul_comm, mul_left_comm)) ∙ ap (λ (x : ℕ). x * c) (sym e))) w
  where
    long : (z p : ℕ) → 0 < p → 0 < z - p → p - 1 + (z - p) < z
    long z p P h = omega arith
