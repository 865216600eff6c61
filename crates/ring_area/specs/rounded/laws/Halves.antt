-- The rounding to the nearest whole number, of a number of which one bit more than its whole part is known, and whether anything is below.
use Rattle.std.specs.Prelude.{◌≡◌, refl, Bool, true, false, eqb}
use Rattle.std.proofs.Math.Path.{sym, ap}
use Rattle.std.proofs.Common.{◌∙◌, mod-lt, zero-mul, one-mul, add-one, pow-add, pow_pos, shr-shr, eq-eqb, ne_eqb}
use Rattle.std.proofs.Math.Logic.{⊎_elim}
use Prim.Native.Nat.{ℕ, ◌+◌, ◌*◌, ◌/◌, ◌%◌, ◌^◌, ◌<◌, compare, Ordering}
use native.Mathlib.Omega.{arith}
use Rattle.std.proofs.lemmas.Nat.{mod-pow-add}
use Rattle.std.specs.Float.Ieee.{nearest}
use Rattle.std.specs.Float.Ieee.Nearest.{closest}
use Rattle.base.specs.common.Decide.{Says}
use Rattle.base.specs.common.Pick.{pick}
use Rattle.base.specs.common.laws.Decide.{eq_or_ne}
use Rattle.ring_area.specs.half.Half.{Cmp, cmp}
use Rattle.ring_area.specs.rounded.Rounded.{halved_of}

-- the nearest by how twice the remainder lies to the divisor
module _ (w a b : ℕ) where
  below : a < b → nearest w (compare a b) ≡ w
  below h = go (compare a b) (cmp a b)
    where
      go : (o : Ordering) → Cmp o a b → nearest w o ≡ w
      go Ordering.lt c = refl
      go Ordering.eq c = absurd (omega arith)
      go Ordering.gt c = absurd (omega arith)

  tie : a ≡ b → nearest w (compare a b) ≡ w + w % 2
  tie h = go (compare a b) (cmp a b)
    where
      go : (o : Ordering) → Cmp o a b → nearest w o ≡ w + w % 2
      go Ordering.lt c = absurd (omega arith)
      go Ordering.eq c = refl
      go Ordering.gt c = absurd (omega arith)

  above : b < a → nearest w (compare a b) ≡ w + 1
  above h = go (compare a b) (cmp a b)
    where
      go : (o : Ordering) → Cmp o a b → nearest w o ≡ w + 1
      go Ordering.lt c = absurd (omega arith)
      go Ordering.eq c = absurd (omega arith)
      go Ordering.gt c = sym (add-one w)

-- q is n without its lowest t bits, u is 2 ^ t, r is what these are, m the remainder with the bit above
module _ (q u r m : ℕ) (R : r < u) (e : m ≡ q % 2 * u + r) where
  halved : (exact : Bool) → Says exact (r ≡ 0) → nearest (q / 2) (compare (m * 2) (2 * u)) ≡ halved_of q exact
  unfolding halved_of
  halved exact s = ⊎_elim even odd (eq_or_ne (q % 2) 0)
    where
      even : q % 2 ≡ 0 → nearest (q / 2) (compare (m * 2) (2 * u)) ≡ pick (eqb (q % 2) 0) (λ _. q / 2) (λ _. pick exact (λ _. q / 2 + q / 2 % 2) (λ _. q / 2 + 1))
      even z =
          let f : m ≡ r = e ∙ ap (λ (x : ℕ). x * u + r) z ∙ ap (λ (x : ℕ). x + r) (zero-mul u) ∙ none r in
          rw (eq-eqb (q % 2) 0 z) (below (q / 2) (m * 2) (2 * u) (omega arith))
        where
          none : (r : ℕ) → 0 + r ≡ r
          none r = omega arith

      odd : (q % 2 ≡ 0 → ⊥) → nearest (q / 2) (compare (m * 2) (2 * u)) ≡ pick (eqb (q % 2) 0) (λ _. q / 2) (λ _. pick exact (λ _. q / 2 + q / 2 % 2) (λ _. q / 2 + 1))
      odd n =
          let one : q % 2 ≡ 1 = bit q n in
          let f : m ≡ u + r = e ∙ ap (λ (x : ℕ). x * u + r) one ∙ ap (λ (x : ℕ). x + r) (one-mul u) in
          rw (ne_eqb (q % 2) 0 n) (go exact s f)
        where
          bit : (q : ℕ) → (q % 2 ≡ 0 → ⊥) → q % 2 ≡ 1
          bit q n = ⊎_elim (λ z. absurd (n z)) (λ z. omega arith) (eq_or_ne (q % 2) 0)

          go : (exact : Bool) → Says exact (r ≡ 0) → m ≡ u + r → nearest (q / 2) (compare (m * 2) (2 * u)) ≡ pick exact (λ _. q / 2 + q / 2 % 2) (λ _. q / 2 + 1)
          go true z f = tie (q / 2) (m * 2) (2 * u) (omega arith)
          go false z f = above (q / 2) (m * 2) (2 * u) (⊎_elim (λ x. absurd (z x)) (λ x. some x f) (eq_or_ne r 0))
            where
              some : (r ≡ 0 → ⊥) → m ≡ u + r → 2 * u < m * 2
              some n f = ⊎_elim (λ x. absurd (n x)) (λ x. omega arith) (eq_or_ne r 0)

pub closest_halved : (n t : ℕ) (exact : Bool) → Says exact (n % 2 ^ t ≡ 0) → closest n (2 ^ (t + 1)) ≡ halved_of (n / 2 ^ t) exact
closest_halved n t exact s =
    let u : 2 ^ (t + 1) ≡ 2 * 2 ^ t = ap (λ (x : ℕ). 2 ^ x) (swap t) ∙ pow-add 2 1 t in
    let m : n % 2 ^ (t + 1) ≡ n / 2 ^ t % 2 * 2 ^ t + n % 2 ^ t = ap (λ (x : ℕ). n % 2 ^ x) (swap t) ∙ mod-pow-add n 1 t in
    ap (λ (x : ℕ). nearest x (compare (n % 2 ^ (t + 1) * 2) (2 ^ (t + 1)))) (sym (shr-shr n t 1))
    ∙ ap (λ (x : ℕ). nearest (n / 2 ^ t / 2) (compare (n % 2 ^ (t + 1) * 2) x)) u
    ∙ halved (n / 2 ^ t) (2 ^ t) (n % 2 ^ t) (n % 2 ^ (t + 1)) (mod-lt n (pow_pos t)) m exact s
  where
    swap : (t : ℕ) → t + 1 ≡ 1 + t
    swap t = omega arith

-- as the code decides
module _ (q : ℕ) where
  pub halved_even : (exact : Bool) → q % 2 ≡ 0 → q / 2 ≡ halved_of q exact
  unfolding halved_of
  halved_even exact z = sym (rw (eq-eqb (q % 2) 0 z) refl)

  pub halved_tie : (exact : Bool) → (q % 2 ≡ 0 → ⊥) → exact ≡ true → q / 2 + q / 2 % 2 ≡ halved_of q exact
  unfolding halved_of
  halved_tie exact n e = sym (rw (ne_eqb (q % 2) 0 n, e) refl)

  pub halved_up : (exact : Bool) → (q % 2 ≡ 0 → ⊥) → exact ≡ false → q / 2 + 1 ≡ halved_of q exact
  unfolding halved_of
  halved_up exact n e = sym (rw (ne_eqb (q % 2) 0 n, e) refl)
