-- What the steps to a rounded area owe each other: sums that begin at 0 and can be settled, and the exponents that a ring's coordinates reach; 0 reaches none. Definitions only.
use Rattle.std.specs.Prelude.{◌≡◌, List, ℕ, ◌≤◌, ◌<◌, Float, length, get_or}
use Rattle.std.specs.Float.{binary64}
use Rattle.std.specs.Float.Ieee.{of_bits, to_bits}
use Rattle.ring_area.specs.long.Amount.{amount, weight}
use Rattle.ring_area.specs.long.Steps.{PutRoom}
use Rattle.root.specs.Root.{units}
use Rattle.plane.specs.points.Flat.{point_at}
use Rattle.plane.specs.declared.points.Point.{Point}
use Rattle.ring_area.specs.Steps.{exponent_of}

pub record AllZero (l : List ℕ) (n : ℕ) : Type 0 where
  pub long : length l ≡ n
  pub each : (k : ℕ) → get_or l k 0 ≡ 0

-- a sum whose carries can be settled within its limbs
pub record SumHeld (l : List ℕ) : Type 0 where
  pub room : PutRoom l 0
  pub fits : amount l < weight (length l)

-- ---- the least and the greatest exponent
pub record PatternReached (least most b : ℕ) : Type 0 where
  pub some : 0 < units (of_bits binary64 b) → (least ≤ exponent_of b) × (exponent_of b ≤ most)

pub record ReachedPoint (least most : ℕ) (p : Point) : Type 0 where
  pub x : PatternReached least most (to_bits binary64 p.x)
  pub y : PatternReached least most (to_bits binary64 p.y)

-- one reach within another, where no exponent is above 1422
pub record Widened (least most least₁ most₁ : ℕ) : Type 0 where
  pub low : least₁ ≤ least
  pub high : most ≤ most₁
  pub few : most ≤ 1422 → most₁ ≤ 1422

pub record RingReached (v : List Float) (cell : List ℕ) (least most : ℕ) : Type 0 where
  pub each : (k : ℕ) → k < length cell → ReachedPoint least most (point_at v (get_or cell k 0))
  pub few : most ≤ 1422
