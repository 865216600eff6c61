-- The sites in use are those that stand in a triangle; a site's neighbours are among them.
use Rattle.std.specs.Prelude.{◌≡◌, refl, List, Bool, true, false, ℕ, zero, suc, ◌≤◌, ◌<◌, eqb}
use Rattle.std.proofs.Common.{arith, eqb-true}
use Rattle.base.specs.common.Pick.{pick}
use Rattle.base.specs.common.Count.{occ}
use Rattle.walks.specs.paths.PathRule.{used_at, used_of}

pub used_one : (tri : List ℕ) (s : ℕ) → 0 < occ s tri → used_at tri s ≡ 1
unfolding used_at
used_one tri s h = go (eqb (occ s tri) 0) refl
  where
    go : (b : Bool) → eqb (occ s tri) 0 ≡ b → pick {A = ℕ} b (λ _. 0) (λ _. 1) ≡ 1
    go true q = absurd (omega (arith, eqb-true (occ s tri) 0 q))
    go false q = refl

used_le : (tri : List ℕ) (s : ℕ) → used_at tri s ≤ 1
unfolding used_at
used_le tri s = go (eqb (occ s tri) 0)
  where
    go : (b : Bool) → pick {A = ℕ} b (λ _. 0) (λ _. 1) ≤ 1
    go true = omega arith
    go false = omega arith

pub used_sum : (tri : List ℕ) (n : ℕ) → used_of tri n ≤ n
used_sum tri zero = omega arith
used_sum tri (suc n) = omega (arith, used_sum tri n, used_le tri n)
