-- Triangles that turn the wrong way, or are flat: as rings of sites they have an area that is not above 0 (docs/use/RULES.md, "Areas"). Definitions only.
use Rattle.std.specs.Prelude.{ℕ, zero, suc, ◌+◌, ◌*◌, ◌/◌, ◌<◌, Bool, not, List, length, take, drop, slice_index, Float}
use Rattle.std.specs.Float.Ieee.{lt}
use Rattle.base.specs.common.Binary64 as B
use Rattle.base.specs.common.Pick.{pick}
use Rattle.plane.specs.points.Finite.{BoundedPoint}
use Rattle.plane.specs.points.Flat.{point_at}
use Rattle.ring_area.specs.Area.{ring_area}

-- the three sites of triangle t
abbrev pub triangle_ring : List ℕ → ℕ → List ℕ
triangle_ring tri t = take 3 (drop (3 * t) tri)

unfoldable pub turned_at : List Float → List ℕ → ℕ → Bool
turned_at sites tri t = not (lt B.zero (ring_area sites (triangle_ring tri t)))

unfoldable pub one_if_turned : List Float → List ℕ → ℕ → ℕ
one_if_turned sites tri t = pick (turned_at sites tri t) (λ _. 1) (λ _. 0)

-- how many of the first n are
unfoldable pub turned_count : List Float → List ℕ → ℕ → ℕ
turned_count sites tri zero = 0
turned_count sites tri (suc n) = turned_count sites tri n + one_if_turned sites tri n

-- each entry is a site, of coordinates within 2 ^ 400
pub record TrianglesKept (sites : List Float) (tri : List ℕ) : Type 0 where
  pub named : (k : ℕ) → k < length tri → slice_index tri k < length sites / 2
  pub bounded : (k : ℕ) → k < length tri → BoundedPoint 400 (point_at sites (slice_index tri k))
