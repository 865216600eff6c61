-- A MultiPoint in Well-Known Binary, in both byte orders. Definitions only. OGC 06-103r4, 8.2, has the structures
--   Point { double x; double y }   WKBPoint { byte byteOrder; uint32 wkbType = 1; Point point }
--   WKBMultiPoint { byte byteOrder; uint32 wkbType = 4; uint32 numPoints; WKBPoint points[numPoints] }
-- byteOrder 0: big-endian, 1: little-endian; it holds for the numbers of its own structure, so each point has its own.
use Rattle.std.specs.Prelude.{Bool, true, false, List, ◌∷◌, ◌++◌, ℕ, ◌^◌, ◌<◌, length}
use Rattle.octets.specs.Bytes.{each}
use Rattle.octets.specs.Orders.{spelt}

-- a point of a file: its order, and the patterns of x and y
pub record FilePoint : Type 0 where
  pub little : Bool
  pub x : ℕ
  pub y : ℕ

abbrev pub file_point : Bool → ℕ → ℕ → FilePoint
file_point little x y = record { little = little; x = x; y = y }

-- patterns of 64 bits
abbrev pub Patterned : FilePoint → Type 0
Patterned p = (p.x < 2 ^ 64) × (p.y < 2 ^ 64)

abbrev pub mark : Bool → ℕ
mark false = 0
mark true = 1

-- the mark and the type
abbrev pub start_bytes : Bool → ℕ → List ℕ
start_bytes little kind = mark little ∷ spelt little 4 kind

unfoldable pub file_point_bytes : FilePoint → List ℕ
file_point_bytes p = start_bytes p.little 1 ++ (spelt p.little 8 p.x ++ spelt p.little 8 p.y)

-- the file, by the order of its head and its points: 9 bytes, and 21 for each point
unfoldable pub multi_point : Bool → List FilePoint → List ℕ
multi_point little ps = start_bytes little 4 ++ (spelt little 4 (length ps) ++ each file_point_bytes ps)
