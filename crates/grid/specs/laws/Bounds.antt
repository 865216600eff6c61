-- Sums of products of bounded numbers are bounded, and fit 64 bits.
use Rattle.std.specs.Prelude.{ℕ, ◌*◌, ◌≤◌}
use Rattle.std.proofs.Common.{mul-le-mul}

-- a product of two coordinates that were moved up: 2^28
pub flat : (a b : ℕ) → a ≤ 16384 → b ≤ 16384 → a * b ≤ 268435456
flat a b h k = mul-le-mul h k

-- a product of a height and an area: 3 · 2^57
pub tall : (a b : ℕ) → a ≤ 536870912 → b ≤ 805306368 → a * b ≤ 432345564227567616
tall a b h k = mul-le-mul h k
