-- Which limbs of a long number hold a ring's products, by the exponents of its coordinates; 0 asks for none. Definitions only.
use Rattle.std.specs.Prelude.{◌≡◌, List, ℕ, ◌+◌, ◌*◌, ◌≤◌, ◌<◌, Float, length, get_or}
use Rattle.std.specs.Float.{binary64}
use Rattle.std.specs.Float.Ieee.{of_bits, to_bits}
use Rattle.ring_area.specs.long.Amount.{lifted}
use Rattle.ring_area.specs.long.Steps.{PutRoom}
use Rattle.root.specs.Root.{units}
use Rattle.plane.specs.points.Finite.{BoundedPoint}
use Rattle.plane.specs.points.Flat.{point_at}
use Rattle.plane.specs.declared.points.Point.{Point}
use Rattle.ring_area.specs.Steps.{exponent_of}

-- n limbs from number `from` on:
-- products of two such exponents begin there and leave the highest limb to the carries
pub record InSpan (from n e : ℕ) : Type 0 where
  pub low : 16 * from ≤ e
  pub high : e + 80 < 16 * (from + n)

pub record PatternIn (from n b : ℕ) : Type 0 where
  pub some : 0 < units (of_bits binary64 b) → InSpan from n (exponent_of b)

pub record CornerIn (from n : ℕ) (p : Point) : Type 0 where
  pub bounded : BoundedPoint 400 p
  pub x : PatternIn from n (to_bits binary64 p.x)
  pub y : PatternIn from n (to_bits binary64 p.y)

pub record RingPlaced (from n : ℕ) (v : List Float) (cell : List ℕ) : Type 0 where
  pub each : (k : ℕ) → k < length cell → CornerIn from n (point_at v (get_or cell k 0))

-- two sums of as many limbs with room for so many puts
pub record BothOpen (from : ℕ) (p m : List ℕ) (puts : ℕ) : Type 0 where
  pub same : length m ≡ length p
  pub plus : PutRoom (lifted from p) puts
  pub minus : PutRoom (lifted from m) puts
