-- What stands in a list, and what is known of each of its entries.
use Rattle.std.specs.Prelude.{refl, List, [], ◌∷◌, ℕ, zero, suc, ◌<◌, length, get_or}
use Rattle.std.proofs.Common.{⊎_elim, arith}
use Rattle.base.specs.common.Count.{occ}
use Rattle.base.specs.common.laws.Count.{same_cases}

pub occ_there : (l : List ℕ) (i : ℕ) → i < length l → 0 < occ (get_or l i 0) l
occ_there [] i h = absurd (omega arith)
occ_there (x ∷ l) zero h = ⊎_elim (λ w. omega arith) (λ w. absurd (w.0 refl)) (same_cases x x)
occ_there (x ∷ l) (suc i) h = omega (arith, occ_there l i (omega arith))

pub occ_below : (l : List ℕ) (n v : ℕ) → ((i : ℕ) → i < length l → get_or l i 0 < n) → 0 < occ v l → v < n
occ_below [] n v h o = absurd (omega arith)
occ_below (x ∷ l) n v h o =
    ⊎_elim
    (λ w. rw w.0 (h 0 (omega arith)))
    (λ w. occ_below l n v (λ i g. h (suc i) (omega arith)) (omega arith))
    (same_cases v x)
