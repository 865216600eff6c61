-- The two ways in which a whole root is rounded to the nearest: by what its square leaves.
use Rattle.std.specs.Prelude.{◌≡◌, ℕ, zero, suc, ◌+◌, ◌-◌, ◌*◌, ◌≤◌, ◌<◌}
use Rattle.std.proofs.Common.{subst, arith}
use Rattle.root.specs.whole_root.Near.{sq, NearWhole}

-- what r * r leaves of n is at most r: √n is below r + 1/2
pub near_down : (r n : ℕ) → sq r ≤ n → n ≤ r * r + r → 0 < n → NearWhole n r
near_down zero n l h s = record { low = omega arith; high = omega arith }
near_down (suc r) n l h s = record { low = subst (λ (x : ℕ). sq x < 4 * n) odd (omega arith); high = omega arith }
  where
    odd : 2 * r + 1 ≡ 2 * suc r - 1
    odd = omega arith

-- it is more: √n is above r + 1/2
pub near_up : (r n : ℕ) → r * r + r < n → n < sq (suc r) → NearWhole n (r + 1)
near_up r n h l = record { low = subst (λ (x : ℕ). sq x < 4 * n) odd (omega arith); high = omega arith }
  where
    odd : 2 * r + 1 ≡ 2 * (r + 1) - 1
    odd = omega arith
