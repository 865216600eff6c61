-- A cell as a Polygon in Well-Known Binary, little-endian. Points are pairs of bit patterns. Definitions only. OGC 06-103r4, 8.2, has the three structures
--   Point { double x; double y }   LinearRing { uint32 numPoints; Point points[numPoints] }
--   WKBPolygon { byte byteOrder; uint32 wkbType = 3; uint32 numRings; LinearRing rings[numRings] }   byteOrder 1: little-endian
use Rattle.std.specs.Prelude.{List, [], ◌∷◌, ◌++◌, map, ℕ, ◌+◌, ◌*◌, ◌^◌, ◌<◌, ltb, Float, length, get_or}
use Rattle.std.specs.Float.{binary64}
use Rattle.std.specs.Float.Ieee.{to_bits}
use Rattle.base.specs.common.Pick.{pick}
use Rattle.octets.specs.Bytes.{le, each}

pub record Pt : Type 0 where
  pub x : ℕ
  pub y : ℕ

abbrev pub pt : ℕ → ℕ → Pt
pt x y = record { x = x; y = y }

-- patterns of 64 bits
abbrev pub PtFits : Pt → Type 0
PtFits p = (p.x < 2 ^ 64) × (p.y < 2 ^ 64)

-- ---- the image of a list of points

unfoldable pub point_bytes : Pt → List ℕ
point_bytes p = le 8 p.x ++ le 8 p.y

abbrev pub ring_bytes : List Pt → List ℕ
ring_bytes ps = le 4 (length ps) ++ each point_bytes ps

-- the first repeated at the end
abbrev pub closed : List Pt → List Pt
closed [] = []
closed (p ∷ ps) = p ∷ ps ++ p ∷ []

-- order, type, number of rings
unfoldable pub head_bytes : ℕ → List ℕ
head_bytes rings = 1 ∷ le 4 3 ++ le 4 rings

-- fewer than three points have no ring
unfoldable pub polygon : List Pt → List ℕ
polygon ps = pick (ltb (length ps) 3) (λ _. head_bytes 0) (λ _. head_bytes 1 ++ ring_bytes (closed ps))

-- how many bytes the image of n points has (`length_polygon` of ReadBack); the header's VORONOI_WKB_ROOM(n)
unfoldable pub size : ℕ → ℕ
size n = pick (ltb n 3) (λ _. 9) (λ _. 29 + 16 * n)

-- ---- the points of a cell: entry e of a list of numbers, two to a vertex

unfoldable pub pattern_at : List ℕ → ℕ → Pt
pattern_at v e = pt (get_or v (2 * e) 0) (get_or v (2 * e + 1) 0)

abbrev pub patterns_of : List ℕ → List ℕ → List Pt
patterns_of v = map (pattern_at v)

-- the patterns of floats; the NaN's is 0x7FF8000000000000
abbrev pub patterns : List Float → List ℕ
patterns = map (to_bits binary64)
