-- A square root that computes: to the nearest value, from the whole root of the magnitude, found digit by digit. `SqrtIsRoot` has that it is the root of the definition.
-- In units of 2 ^ -1074, √x is √n with n = units x * 2 ^ 1074. A square 4 ^ h is taken out of n so that what is left has 105 or 106 binary digits, and its root 53.
-- Definitions only.
use Rattle.std.specs.Prelude.{true, false, ℕ, zero, suc, ◌+◌, ◌-◌, ◌*◌, ◌/◌, ◌^◌, leb, ltb, Float}
use Rattle.std.specs.Float.{nan, inf, fin}
use Rattle.std.specs.Float.Ieee.{odd, size}
use Rattle.base.specs.common.Pick.{pick}
use Rattle.root.specs.whole_root.Near.{sq}
use Rattle.root.specs.Root.{units}

-- the largest whole number whose square is at most n, of the numbers that have r's digits and k free ones below
unfoldable pub whole_root : ℕ → ℕ → ℕ → ℕ
whole_root zero r n = r
whole_root (suc k) r n = whole_root k (pick (leb (sq (r + 2 ^ k)) n) (λ _. r + 2 ^ k) (λ _. r)) n

-- the whole number nearest to √n, for n of at most 106 digits: one more than r where √n is above r + 1/2, whose square is r * r + r + 1/4
unfoldable pub nearest_root : ℕ → ℕ
nearest_root n =
    let r = whole_root 53 0 n in
    pick (ltb (r * r + r) n) (λ _. r + 1) (λ _. r)

-- the value nearest to √n units
unfoldable pub root_of_units : ℕ → Float
root_of_units n =
    let h = (size n - 105) / 2 in
    odd 54 false (nearest_root (n / sq (2 ^ h))) h 1074

unfoldable pub sqrt_of : Float → Float
sqrt_of nan = nan
sqrt_of (inf true) = nan
sqrt_of (inf false) = inf false
sqrt_of (fin s zero e) = fin s zero e
sqrt_of (fin true (suc m) e) = nan
sqrt_of (fin false (suc m) e) = root_of_units (units (fin false (suc m) e) * 2 ^ 1074)
