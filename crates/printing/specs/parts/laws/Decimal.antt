-- A number's digits: what one more division gives, that they are digits, that their value is the number, and that they begin with no idle zero.
use Rattle.std.specs.Prelude.{◌≡◌, refl, List, [], ◌∷◌, ◌++◌, ℕ, zero, suc, ◌+◌, ◌-◌, ◌*◌, ◌/◌, ◌%◌, ◌^◌, ◌≤◌, ◌<◌, length, get_or}
use Rattle.std.proofs.Common.{sym, ap, ◌∙◌, ⊎_elim, arith, pow-suc, length-append, lt-ltb, le-ltb}
use Rattle.std.proofs.Math.ListN.{get_or-append}
use Rattle.base.specs.common.laws.Decide.{lt_or_ge}
use Rattle.printing.specs.parts.Text.{Digits, value, Decimal, digits, decimal}

digits_one : (k n : ℕ) → n < 10 → digits (suc k) n ≡ (48 + n) ∷ []
unfolding digits
digits_one k n h = rw (lt-ltb n 10 h)

digits_more : (k n : ℕ) → 10 ≤ n → digits (suc k) n ≡ digits k (n / 10) ++ (48 + n % 10) ∷ []
unfolding digits
digits_more k n h = rw (le-ltb n 10 h)

-- a number of more than one digit within k places has at least two
fewer : (k n : ℕ) → n < 10 ^ suc k → n / 10 < 10 ^ k
fewer k n h = let g : n < 10 ^ k * 10 = rw (pow-suc 10 k) at h in omega arith

one_place : (k n : ℕ) → 10 ≤ n → n < 10 ^ suc k → 0 < k
one_place zero n l h = absurd (omega arith)
one_place (suc k) n l h = omega arith

-- by the number of places, from a law for one digit and one for a digit more
places :
    (P : ℕ → ℕ → Type 0)
    → ((k n : ℕ) → n < 10 → P (suc k) n)
    → ((k n : ℕ) → 10 ≤ n → P k (n / 10) → P (suc k) n)
    → (k n : ℕ) → 0 < k → n < 10 ^ k → P k n
places P one more zero n l h = absurd (omega arith)
places P one more (suc k) n l h =
    ⊎_elim (λ o. one k n o) (λ m. more k n m (places P one more k (n / 10) (one_place k n m h) (fewer k n h))) (lt_or_ge n 10)

pub enough : (k n : ℕ) → 0 < k → n < 10 ^ k → digits (suc k) n ≡ digits k n
enough =
    places (λ k n. digits (suc k) n ≡ digits k n)
    (λ k n o. digits_one (suc k) n o ∙ sym (digits_one k n o))
    (λ k n m e. digits_more (suc k) n m ∙ ap (λ (s : List ℕ). s ++ (48 + n % 10) ∷ []) e ∙ sym (digits_more k n m))

pub decimal_one : (n : ℕ) → n < 10 → decimal n ≡ (48 + n) ∷ []
unfolding decimal
decimal_one n h = digits_one 9 n h

pub decimal_more : (n : ℕ) → 10 ≤ n → n < 2 ^ 32 → decimal n ≡ decimal (n / 10) ++ (48 + n % 10) ∷ []
unfolding decimal
decimal_more n l h = digits_more 9 n l ∙ ap (λ (s : List ℕ). s ++ (48 + n % 10) ∷ []) (sym (enough 9 (n / 10) (omega arith) (omega arith)))

no_digits : (n : ℕ) → length (digits zero n) ≤ zero
unfolding digits
no_digits n = omega arith

digits_short : (k n : ℕ) → length (digits k n) ≤ k
digits_short zero n = no_digits n
digits_short (suc k) n =
    ⊎_elim (λ o. rw (digits_one k n o) (omega arith)) (λ m. rw (digits_more k n m)
    (omega (arith, length-append (digits k (n / 10)) ((48 + n % 10) ∷ []), digits_short k (n / 10)))) (lt_or_ge n 10)

pub decimal_short : (n : ℕ) → length (decimal n) ≤ 10
unfolding decimal
decimal_short n = digits_short 10 n

-- ---- what the digits are

digits_append : (s t : List ℕ) → Digits s → Digits t → Digits (s ++ t)
digits_append [] t p q = q
digits_append (c ∷ s) t p q = (p.0, p.1, digits_append s t p.2 q)

value_append : (s t : List ℕ) (v : ℕ) → value v (s ++ t) ≡ value (value v s) t
value_append [] t v = refl
value_append (c ∷ s) t v = value_append s t (v * 10 + (c - 48))

record Spelt (k n : ℕ) : Type 0 where
  all : Digits (digits k n)
  worth : value 0 (digits k n) ≡ n
  first : 1 ≤ n → 48 < get_or (digits k n) 0 0
  some : 0 < length (digits k n)
  few : length (digits k n) ≤ k

spelt_one : (k n : ℕ) → n < 10 → Spelt (suc k) n
spelt_one k n h =
    let e = digits_one k n h in
    record {
      all = rw e (omega arith, omega arith, tt);
      worth = rw e (omega arith);
      first = λ l. rw e (omega arith);
      some = rw e (omega arith);
      few = rw e (omega arith);
    }

spelt_more : (k n : ℕ) → 10 ≤ n → Spelt k (n / 10) → Spelt (suc k) n
spelt_more k n h p =
    let s = digits k (n / 10) in
    let e : digits (suc k) n ≡ s ++ (48 + n % 10) ∷ [] = digits_more k n h in
    let l : length (s ++ (48 + n % 10) ∷ []) ≡ length s + 1 = length-append s ((48 + n % 10) ∷ []) in
    let f : 48 < get_or (s ++ (48 + n % 10) ∷ []) 0 0 = rw (get_or-append s ((48 + n % 10) ∷ []) 0 0 p.some) (p.first (omega arith)) in
    record {
      all = rw e (digits_append s ((48 + n % 10) ∷ []) p.all (omega arith, omega arith, tt));
      worth = rw e (value_append s ((48 + n % 10) ∷ []) 0 ∙ ap (λ (v : ℕ). v * 10 + (48 + n % 10 - 48)) p.worth ∙ omega arith);
      first = λ _. rw e f;
      some = rw e (omega (arith, p.some));
      few = rw e (omega (arith, p.few));
    }

pub is_decimal : (n : ℕ) → n < 2 ^ 32 → Decimal n (decimal n)
unfolding decimal
is_decimal n h =
    let p = places Spelt spelt_one spelt_more 10 n (omega arith) (omega arith) in
    record { digits = p.all; value = p.worth; lead = λ l. p.first (omega arith); some = p.some; few = p.few }
