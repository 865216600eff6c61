-- The least of a list, and the cases of an entry.
use Rattle.std.specs.Prelude.{◌≡◌, refl, List, [], ◌∷◌, ◌⊎◌, ◌≢◌, ℕ, ◌≤◌, ◌<◌}
use Rattle.std.proofs.Common.{◌∙◌, inl, inr, ⊎_elim, arith}
use borrow.Author.Tests.{eq-eqb, ne_eqb, lt-ltb, le-ltb}
use Rattle.base.specs.common.Count.{occ}
use Rattle.base.specs.common.laws.Count.{same_cases}
use Rattle.base.specs.common.laws.Decide.{lt_or_ge, eq_or_ne}
use Rattle.base.specs.numbers.Numbers.{EMPTY}
use Rattle.mesh.specs.Mesh.{pair_of}
use Rattle.flipping.specs.Entries.{lesser, least_of, gain_of, least_round, loss_of}

pub lesser_cases : (x m : ℕ) → ((x < m) × (lesser x m ≡ x)) ⊎ ((m ≤ x) × (lesser x m ≡ m))
unfolding lesser
lesser_cases x m = ⊎_elim (λ l. inl (l, rw (lt-ltb x m l))) (λ l. inr (l, rw (le-ltb x m l))) (lt_or_ge x m)

least_le : (m : ℕ) (l : List ℕ) → least_of m l ≤ m
unfolding least_of
least_le m [] = omega arith
least_le m (x ∷ l) = ⊎_elim (λ w. omega (arith, least_le (lesser x m) l)) (λ w. omega (arith, least_le (lesser x m) l)) (lesser_cases x m)

pub least_below : (m : ℕ) (l : List ℕ) (v : ℕ) → 0 < occ v l → least_of m l ≤ v
unfolding least_of
least_below m [] v h = absurd (omega arith)
least_below m (x ∷ l) v h =
    ⊎_elim
    (λ w. ⊎_elim (λ u. omega (arith, least_le (lesser x m) l)) (λ u. omega (arith, least_le (lesser x m) l)) (lesser_cases x m))
    (λ w. least_below (lesser x m) l v (omega arith))
    (same_cases v x)

pub least_there : (m : ℕ) (l : List ℕ) → (least_of m l ≡ m) ⊎ (0 < occ (least_of m l) l)
unfolding least_of
least_there m [] = inl refl
least_there m (x ∷ l) =
    ⊎_elim
    (λ z. ⊎_elim
    (λ w. inr (⊎_elim (λ u. omega arith) (λ u. absurd (u.0 (z ∙ w.1))) (same_cases (least_of (lesser x m) l) x)))
    (λ w. inl (z ∙ w.1))
    (lesser_cases x m))
    (λ z. inr (⊎_elim (λ u. omega arith) (λ u. omega arith) (same_cases (least_of (lesser x m) l) x)))
    (least_there (lesser x m) l)

pub gain_cases : (he : List ℕ) (t e : ℕ) → ((pair_of he t ≡ EMPTY) × (gain_of he t e ≡ t)) ⊎ ((pair_of he t ≢ EMPTY) × (gain_of he t e ≡ lesser e t))
unfolding gain_of
gain_cases he t e = ⊎_elim (λ z. inl (z, rw (eq-eqb (pair_of he t) EMPTY z))) (λ z. inr (z, rw (ne_eqb (pair_of he t) EMPTY z))) (eq_or_ne (pair_of he t) EMPTY)

module _ (he : List ℕ) (t lost kept : ℕ) where
  pub loss_other : t ≢ lost → loss_of he t lost kept ≡ t
  unfolding loss_of
  loss_other n = rw (ne_eqb t lost n)

  pub loss_open : t ≡ lost → pair_of he lost ≡ EMPTY → loss_of he t lost kept ≡ kept
  unfolding loss_of
  loss_open z u = rw (eq-eqb t lost z, eq-eqb (pair_of he lost) EMPTY u)

  pub loss_round : t ≡ lost → pair_of he lost ≢ EMPTY → loss_of he t lost kept ≡ least_round he lost kept
  unfolding loss_of
  loss_round z u = rw (eq-eqb t lost z, ne_eqb (pair_of he lost) EMPTY u)
