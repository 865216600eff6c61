-- The squared distance between places of whole multiples of 2^-k, near enough, is computed without rounding.
use Rattle.std.specs.Prelude.{◌≡◌, refl, Bool, ◌&&◌, ◌||◌, cond, ◌⊎◌, ℕ, suc, ◌+◌, ◌-◌, ◌*◌, ◌^◌, ◌≤◌, ◌<◌, T, eqb, Float}
use Rattle.std.proofs.Common.{sym, ◌∙◌, inl, inr, mul_assoc, mul_comm, mul-pos, mul_right_comm, mul-le-mul_right, le_of_mul-le-mul_right, lt_of_lt_of_le, le_of_eq, le_trans, pow-add, pow_pos, pow_mono, shl_lt}
use Rattle.std.proofs.Math.Path.{ap, subst}
use Rattle.std.proofs.Math.Bool.{true, false, not}
use Rattle.std.specs.Bool.{beq}
use Rattle.std.proofs.Math.Nat.{mul-sub, mul-mul-mul_comm}
use native.Mathlib.Omega.{arith}
use Rattle.std.proofs.Math.Dec.{ltb}
use borrow.Author.Tests.{ltb-true, ltb-false, eqb-true}
use Rattle.std.specs.Float.Ieee.{nan, binary64, emax, low, up, down, unlike, round, sum, add, sub, mul, neg, lt, le, eq}
use Rattle.std.specs.Float.{inf, fin}
use Rattle.std.specs.Float.Ieee.Exact.{HasValue, round_exact}
use Rattle.std.specs.Float.Ieee.Scale.{round_same}
use Rattle.std.specs.Float.Ieee.Fits.{down_pos}
use Rattle.base.specs.common.Binary64.{◌⊞◌, ◌⊟◌, ◌⊠◌}

-- a quotient that is a / 2^k, with a below 2^53, is kept
pub kept : (s : Bool) (num den a k : ℕ) → 0 < den → k ≤ 1074 → a < 2 ^ 53 → num * 2 ^ k ≡ a * den → HasValue (round binary64 s num den) s a (2 ^ k)
kept s num den a k pos-den small fine q =
    subst (λ x. HasValue x s a (2 ^ k)) (sym (round_same binary64 s num den a (2 ^ k) pos-den (pow_pos k) q))
    (round_exact binary64 s a (2 ^ k) a (1074 - k) (pow_pos k) fine room split)
  where
    split : a * 2 ^ 1074 ≡ a * 2 ^ (1074 - k) * 2 ^ k
    split =
        let e : 1074 ≡ 1074 - k + k = omega arith in
        ap (λ n. a * 2 ^ n) e ∙ ap (λ n. a * n) (pow-add 2 (1074 - k) k) ∙ sym (mul_assoc a (2 ^ (1074 - k)) (2 ^ k))

    room : a * 2 ^ (1074 - k) < 2 ^ (low binary64 + suc (emax binary64))
    room = lt_of_lt_of_le (shl_lt 53 (1074 - k) fine) (pow_mono {i = 53 + (1074 - k)} {j = 2098} (omega arith))

-- a number's fraction over the common denominator
over : (u d w a c : ℕ) → u * c ≡ a * d → u * w * c ≡ a * (d * w)
over u d w a c q = mul_right_comm u w c ∙ ap (λ n. n * w) q ∙ mul_assoc a d w

over' : (u d w a c : ℕ) → u * c ≡ a * d → u * w * c ≡ a * (w * d)
over' u d w a c q = over u d w a c q ∙ ap (λ n. a * n) (mul_comm d w)

plus : (A B C a b c : ℕ) → A * c ≡ a * C → B * c ≡ b * C → (A + B) * c ≡ (a + b) * C
plus A B C a b c p q = omega arith

minus : (A B C a b c : ℕ) → A * c ≡ a * C → B * c ≡ b * C → (A - B) * c ≡ (a - b) * C
minus A B C a b c p q = mul_comm (A - B) c ∙ mul-sub c A B ∙ ap (λ n. n - c * B) (mul_comm c A ∙ p ∙ mul_comm a C) ∙ ap (λ n. C * a - n) (mul_comm c B ∙ q ∙ mul_comm b C) ∙ sym
    (mul-sub C a b) ∙ mul_comm C (a - b)

at_most : (A B C a b c : ℕ) → 0 < C → A * c ≡ a * C → B * c ≡ b * C → A ≤ B → a ≤ b
at_most A B C a b c h p q l = le_of_mul-le-mul_right (le_trans (le_of_eq (sym p)) (le_trans (mul-le-mul_right c l) (le_of_eq q))) h

-- x is (n - K) / 2^k
abbrev pub Lies : ℕ → ℕ → Float → ℕ → Type 0
Lies k K x n = ((K ≤ n) × HasValue x false (n - K) (2 ^ k)) ⊎ ((n ≤ K) × HasValue x true (K - n) (2 ^ k))

-- ±a ± b by their signs
abbrev pub signed_sum : Bool → Bool → ℕ → ℕ → ℕ
signed_sum s t a b = cond (beq s t) (a + b) (a - b + (b - a))

module _ (k : ℕ) (small : k ≤ 1074) where
  sum_at : (s t : Bool) (A B C a b : ℕ) → 0 < C → A * 2 ^ k ≡ a * C → B * 2 ^ k ≡ b * C → a + b < 2 ^ 53 → (u : Bool) × HasValue (sum binary64 s A t B C) u (signed_sum s t a b) (2 ^ k)
  unfolding sum
  sum_at s t A B C a b h p q l = signs (beq s t)
    where
      less : (x : Bool) → ltb A B ≡ x → (u : Bool) × HasValue (cond x (round binary64 t (B - A) C) (round binary64 (s && ltb B A) (A - B) C)) u (a - b + (b - a)) (2 ^ k)
      less true e =
          let i = at_most A B C a b (2 ^ k) h p q (omega (arith, ltb-true A B e)) in
          (t, kept t (B - A) C (a - b + (b - a)) k h small (omega arith) (minus B A C b a (2 ^ k) q p ∙ ap (λ n. n * C) (low_side a b i)))
        where
          low_side : (a b : ℕ) → a ≤ b → b - a ≡ a - b + (b - a)
          low_side a b i = omega arith
      less false e =
          let i = at_most B A C b a (2 ^ k) h q p (ltb-false A B e) in
          (s && ltb B A, kept (s && ltb B A) (A - B) C (a - b + (b - a)) k h small (omega arith) (minus A B C a b (2 ^ k) p q ∙ ap (λ n. n * C) (high_side a b i)))
        where
          high_side : (a b : ℕ) → b ≤ a → a - b ≡ a - b + (b - a)
          high_side a b i = omega arith

      signs : (x : Bool) → (u : Bool) × HasValue (cond x (round binary64 s (A + B) C) (cond (ltb A B) (round binary64 t (B - A) C) (round binary64 (s && ltb B A) (A - B) C))) u
          (cond x (a + b) (a - b + (b - a))) (2 ^ k)
      signs true = (s, kept s (A + B) C (a + b) k h small l (plus A B C a b (2 ^ k) p q))
      signs false = less (ltb A B) refl

  pub add_at : (x y : Float) (s t : Bool) (a b : ℕ) → HasValue x s a (2 ^ k) → HasValue y t b (2 ^ k) → a + b < 2 ^ 53 → (u : Bool) × HasValue (x ⊞ y) u (signed_sum s t a b) (2 ^ k)
  unfolding add
  add_at nan y s t a b p q l = absurd p
  add_at (inf i) y s t a b p q l = absurd p
  add_at (fin i m e) nan s t a b p q l = absurd q
  add_at (fin i m e) (inf j) s t a b p q l = absurd q
  add_at (fin i m e) (fin j n d) s t a b p q l =
      signed i j s t p.0 q.0 (sum_at s t (m * up e * down d) (n * up d * down e) (down e * down d) a b (mul-pos (down_pos e) (down_pos d))
      (over (m * up e) (down e) (down d) a (2 ^ k) p.1) (over' (n * up d) (down d) (down e) b (2 ^ k) q.1) l)
    where
      signed : (i j s t : Bool) → i ≡ s → j ≡ t → (u : Bool) × HasValue (sum binary64 s (m * up e * down d) t (n * up d * down e) (down e * down d)) u (signed_sum s t a b) (2 ^ k) → (u : Bool)
          × HasValue (sum binary64 i (m * up e * down d) j (n * up d * down e) (down e * down d)) u (signed_sum s t a b) (2 ^ k)
      signed i j s t f g h = subst (λ z. (u : Bool) × HasValue (sum binary64 z (m * up e * down d) j (n * up d * down e) (down e * down d)) u (signed_sum s t a b) (2 ^ k)) (sym f)
          (subst (λ z. (u : Bool) × HasValue (sum binary64 s (m * up e * down d) z (n * up d * down e) (down e * down d)) u (signed_sum s t a b) (2 ^ k)) (sym g) h)

  pub neg_at : (y : Float) (t : Bool) (b : ℕ) → HasValue y t b (2 ^ k) → HasValue (neg y) (not t) b (2 ^ k)
  unfolding neg
  neg_at nan t b q = q
  neg_at (inf j) t b q = q
  neg_at (fin j n d) t b q = (ap not q.0, q.1)

  pub sub_at : (K n m : ℕ) (x y : Float) → K < 2 ^ 51 → n < 2 ^ 51 → m < 2 ^ 51 → Lies k K x n → Lies k K y m → (u : Bool) × HasValue (x ⊟ y) u (n - m + (m - n)) (2 ^ k)
  unfolding sub
  sub_at K n m x y lK ln lm (inl p) (inl q) =
      let r = add_at x (neg y) false true (n - K) (m - K) p.1 (neg_at y false (m - K) q.1) (omega arith) in
      (r.0, subst (λ z. HasValue (x ⊞ neg y) r.0 z (2 ^ k)) (omega arith) r.1)
  sub_at K n m x y lK ln lm (inl p) (inr q) =
      let r = add_at x (neg y) false false (n - K) (K - m) p.1 (neg_at y true (K - m) q.1) (omega arith) in
      (r.0, subst (λ z. HasValue (x ⊞ neg y) r.0 z (2 ^ k)) (omega arith) r.1)
  sub_at K n m x y lK ln lm (inr p) (inl q) =
      let r = add_at x (neg y) true true (K - n) (m - K) p.1 (neg_at y false (m - K) q.1) (omega arith) in
      (r.0, subst (λ z. HasValue (x ⊞ neg y) r.0 z (2 ^ k)) (omega arith) r.1)
  sub_at K n m x y lK ln lm (inr p) (inr q) =
      let r = add_at x (neg y) true false (K - n) (K - m) p.1 (neg_at y true (K - m) q.1) (omega arith) in
      (r.0, subst (λ z. HasValue (x ⊞ neg y) r.0 z (2 ^ k)) (omega arith) r.1)

  pub plus_at : (x y : Float) (a b : ℕ) → HasValue x false a (2 ^ k) → HasValue y false b (2 ^ k) → a + b < 2 ^ 53 → HasValue (x ⊞ y) false (a + b) (2 ^ k)
  unfolding add sum
  plus_at nan y a b p q l = absurd p
  plus_at (inf i) y a b p q l = absurd p
  plus_at (fin i m e) nan a b p q l = absurd q
  plus_at (fin i m e) (inf j) a b p q l = absurd q
  plus_at (fin i m e) (fin j n d) a b p q l =
      let A = m * up e * down d in
      let B = n * up d * down e in
      let C = down e * down d in
      let v = kept false (A + B) C (a + b) k (mul-pos (down_pos e) (down_pos d)) small l
      (plus A B C a b (2 ^ k) (over (m * up e) (down e) (down d) a (2 ^ k) p.1) (over' (n * up d) (down d) (down e) b (2 ^ k) q.1)) in
      subst (λ z. HasValue (sum binary64 z A j B C) false (a + b) (2 ^ k)) (sym p.0) (subst (λ z. HasValue (sum binary64 false A z B C) false (a + b) (2 ^ k)) (sym q.0) v)

pub square_at : (k : ℕ) → k + k ≤ 1074 → (x : Float) (u : Bool) (a : ℕ) → HasValue x u a (2 ^ k) → a * a < 2 ^ 53 → HasValue (x ⊠ x) false (a * a) (2 ^ (k + k))
unfolding mul
square_at k small nan u a p l = absurd p
square_at k small (inf i) u a p l = absurd p
square_at k small (fin i m e) u a p l =
    subst (λ z. HasValue (round binary64 z (m * up e * (m * up e)) (down e * down e)) false (a * a) (2 ^ (k + k))) (sym (alike i))
    (kept false (m * up e * (m * up e)) (down e * down e) (a * a) (k + k) (mul-pos (down_pos e) (down_pos e)) small l
    (ap (λ n. m * up e * (m * up e) * n) (pow-add 2 k k) ∙ mul-mul-mul_comm (m * up e) (m * up e) (2 ^ k) (2 ^ k) ∙ ap (λ n. n * n) p.1 ∙ mul-mul-mul_comm a (down e) a (down e)))
  where
    alike : (i : Bool) → unlike i i ≡ false
    alike true = refl
    alike false = refl

-- the order of computed numbers is that of their values
pub le_at : (x y : Float) (a b c : ℕ) → 0 < c → HasValue x false a c → HasValue y false b c → T (le x y) → a ≤ b
unfolding le lt eq
le_at nan y a b c h p q l = absurd p
le_at (inf i) y a b c h p q l = absurd p
le_at (fin i m e) nan a b c h p q l = absurd q
le_at (fin i m e) (inf j) a b c h p q l = absurd q
le_at (fin true m e) (fin j n d) a b c h p q l = let z : true ≡ false = p.0 in let w : ◌≡◌ {A = ℕ} 0 1 = cc in absurd (omega arith)
le_at (fin false m e) (fin true n d) a b c h p q l = let z : true ≡ false = q.0 in let w : ◌≡◌ {A = ℕ} 0 1 = cc in absurd (omega arith)
le_at (fin false m e) (fin false n d) a b c h p q l =
    at_most (m * up e * down d) (n * up d * down e) (down e * down d) a b c (mul-pos (down_pos e) (down_pos d)) (over (m * up e) (down e) (down d) a c p.1)
    (over' (n * up d) (down d) (down e) b c q.1) (either (m * up e * down d) (n * up d * down e) l)
  where
    either : (A B : ℕ) → T (ltb A B || (eqb A B && (true || eqb A 0))) → A ≤ B
    either A B t = less (ltb A B) refl t
      where
        less : (x : Bool) → ltb A B ≡ x → T (x || (eqb A B && (true || eqb A 0))) → A ≤ B
        less true e t = omega (arith, ltb-true A B e)
        less false e t = same (eqb A B) refl t
          where
            same : (x : Bool) → eqb A B ≡ x → T (x && (true || eqb A 0)) → A ≤ B
            same true e t = omega (arith, eqb-true A B e)
            same false e t = absurd t
