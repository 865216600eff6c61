-- What the steps to the sums of a ring owe each other. Definitions only.
use Rattle.std.specs.Prelude.{◌≡◌, List, [], ◌∷◌, map, ℕ, ◌+◌, ◌-◌, ◌*◌, ◌/◌, ◌%◌, ◌^◌, ◌≤◌, ◌<◌, Float, length, get_or}
use Rattle.std.specs.Float.{binary64}
use Rattle.std.specs.Float.Ieee.{of_bits}
use Rattle.ring_area.specs.long.Amount.{amount}
use Rattle.ring_area.specs.long.Steps.{PutRoom, PutIn}
use Rattle.root.specs.Root.{units}
use Rattle.plane.specs.points.Finite.{BoundedPoint}
use Rattle.plane.specs.points.Flat.{point_at}
use Rattle.plane.specs.declared.points.Point.{Point}
use Rattle.ring_area.specs.Area.{product_above, product_under, gain, loss, gains, losses}

-- the pattern of a value of magnitude at most 2 ^ 400 or somewhat more
pub record LowPattern (b : ℕ) : Type 0 where
  pub exponent : b % 2 ^ 63 / 2 ^ 52 ≤ 1423

-- the exponent of its significand
abbrev pub exponent_of : ℕ → ℕ
exponent_of b = b % 2 ^ 63 / 2 ^ 52 - 1

-- its magnitude is m * 2 ^ p units
pub record SplitOf (b m p : ℕ) : Type 0 where
  pub value : units (of_bits binary64 b) ≡ m * 2 ^ p
  pub place : p ≡ exponent_of b
  pub most : p ≤ 1422

-- 94 limbs with room for so many puts
pub record Open (l : List ℕ) (n : ℕ) : Type 0 where
  pub long : length l ≡ 94
  pub room : PutRoom l n

-- the product of x and y in two long numbers that were p and m
pub record ProductIn (x y : Float) (p p₁ m m₁ : List ℕ) : Type 0 where
  pub added : PutIn p p₁ (product_above x y) 8
  pub taken : PutIn m m₁ (product_under x y) 8

-- a side
pub record SideIn (a b : Point) (p p₁ m m₁ : List ℕ) : Type 0 where
  pub added : PutIn p p₁ (gain a b) 16
  pub taken : PutIn m m₁ (loss a b) 16

-- each entry names a vertex, of coordinates within 2 ^ 400, and there are at most 2 ^ 24
pub record Corners (v : List Float) (cell : List ℕ) : Type 0 where
  pub few : length cell ≤ 2 ^ 24
  pub named : (k : ℕ) → k < length cell → 2 * get_or cell k 0 + 1 < length v
  pub bounded : (k : ℕ) → k < length cell → BoundedPoint 400 (point_at v (get_or cell k 0))

-- a ring's sides
abbrev pub gains_of : List Point → ℕ
gains_of [] = 0
gains_of (p ∷ r) = gains p p r

abbrev pub losses_of : List Point → ℕ
losses_of [] = 0
losses_of (p ∷ r) = losses p p r

pub record RingIn (v : List Float) (cell : List ℕ) (p p₁ m m₁ : List ℕ) : Type 0 where
  pub added : PutIn p p₁ (gains_of (map (point_at v) cell)) (16 * length cell)
  pub taken : PutIn m m₁ (losses_of (map (point_at v) cell)) (16 * length cell)

-- 94 limbs whose carries can be settled within them
pub record SumFits (l : List ℕ) : Type 0 where
  pub long : length l ≡ 94
  pub room : PutRoom l 0
  pub fits : amount l < 2 ^ 3008
