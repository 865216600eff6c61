-- The numbers from i on: each of them once, and no other (`each_once`, `each_below`).
use Rattle.std.specs.Prelude.{◌≡◌, ℕ, zero, suc, ◌+◌, ◌≤◌, ◌<◌}
use Rattle.std.proofs.Common.{⊎_elim, arith}
use Rattle.base.specs.common.Count.{occ}
use Rattle.base.specs.common.laws.Count.{same_cases}
use Rattle.cutting_laws.specs.theorem.MeshPieces.{numbers_from}

before_none : (s i k : ℕ) → s < i → occ s (numbers_from i k) ≡ 0
before_none s i zero l = omega arith
before_none s i (suc k) l = ⊎_elim (λ v. absurd (omega (arith, v.0))) (λ v. omega (arith, v.1, before_none s (suc i) k (omega arith))) (same_cases s i)

in_turn_once : (s i k : ℕ) → i ≤ s → s < i + k → occ s (numbers_from i k) ≡ 1
in_turn_once s i zero l h = absurd (omega arith)
in_turn_once s i (suc k) l h = ⊎_elim
    (λ v. omega (arith, v.1, before_none s (suc i) k (omega (arith, v.0))))
    (λ v. omega (arith, v.1, in_turn_once s (suc i) k (omega (arith, v.0)) (omega arith)))
    (same_cases s i)

in_turn_below : (s i k : ℕ) → 0 < occ s (numbers_from i k) → s < i + k
in_turn_below s i zero p = absurd (omega arith)
in_turn_below s i (suc k) p =
    ⊎_elim (λ v. omega (arith, v.0)) (λ v. (let q = in_turn_below s (suc i) k (omega (arith, v.1)) in omega arith)) (same_cases s i)

pub each_once : (n s : ℕ) → s < n → occ s (numbers_from 0 n) ≡ 1
each_once n s l = in_turn_once s 0 n (omega arith) (omega arith)

pub each_below : (n s : ℕ) → 0 < occ s (numbers_from 0 n) → s < n
each_below n s p = let q = in_turn_below s 0 n p in omega arith
