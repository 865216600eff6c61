-- How many binary digits a number has: by two powers of two, and after a shift.
use Rattle.std.specs.Prelude.{◌≡◌, ℕ, suc, ◌+◌, ◌-◌, ◌/◌, ◌^◌, ◌≤◌, ◌<◌}
use Rattle.std.proofs.Common.{sym, ap, ◌∙◌, ⊎_elim, le_trans, le_of_eq, le_antisymm, lt_of_lt_of_le, lt_of_not-le, not-le_of_lt, le-div_iff_mul-le, arith, lit<, pow-add, pow_pos, pow_mono, shr_lt}
use Rattle.std.proofs.Math.Arith.{lt-one}
use Rattle.std.specs.Float.Ieee.{size}
use Rattle.std.specs.Float.Ieee.Digits.{size-lt, size-le, size_reaches}
use Rattle.base.specs.common.laws.Decide.{lt_or_ge}

size_gt : (n j : ℕ) → 2 ^ j ≤ n → j < size n
size_gt n j h = lt_of_not-le (λ (g : size n ≤ j). not-le_of_lt (lt_of_lt_of_le (size-lt n) (pow_mono g)) h)

pub size_is : (n j : ℕ) → 2 ^ j ≤ n → n < 2 ^ suc j → size n ≡ suc j
size_is n j l h = le_antisymm (size-le n (suc j) h) (size_gt n j l)

pub size_zero : size 0 ≡ 0
size_zero = le_antisymm (size-le 0 0 (lit< tt)) (omega arith)

pub size_shift : (n j : ℕ) → size (n / 2 ^ j) ≡ size n - j
size_shift n j = ⊎_elim long short (lt_or_ge j (size n))
  where
    short : size n ≤ j → size (n / 2 ^ j) ≡ size n - j
    short h =
        let z : n / 2 ^ j ≡ 0 = lt-one (shr_lt 0 j (lt_of_lt_of_le (size-lt n) (pow_mono (le_trans h (le_of_eq (sym (plain j))))))) in
        ap size z ∙ size_zero ∙ none (size n) j h
      where
        plain : (j : ℕ) → 0 + j ≡ j
        plain j = omega arith

        none : (z j : ℕ) → z ≤ j → 0 ≡ z - j
        none z j h = omega arith

    long : j < size n → size (n / 2 ^ j) ≡ size n - j
    long h =
        let i = size n - j - 1 in
        let up : 2 ^ (i + j) ≤ n = size_reaches n (i + j) (inside (size n) j h) in
        let top : n < 2 ^ (suc i + j) = lt_of_lt_of_le (size-lt n) (le_of_eq (ap (λ (x : ℕ). 2 ^ x) (whole (size n) j h))) in
        size_is (n / 2 ^ j) i ((le-div_iff_mul-le (pow_pos j)).1 (le_trans (le_of_eq (sym (pow-add 2 i j))) up)) (shr_lt (suc i) j top) ∙ back (size n) j h
      where
        inside : (z j : ℕ) → j < z → z - j - 1 + j < z
        inside z j h = omega arith

        whole : (z j : ℕ) → j < z → z ≡ suc (z - j - 1) + j
        whole z j h = omega arith

        back : (z j : ℕ) → j < z → suc (z - j - 1) ≡ z - j
        back z j h = omega arith
