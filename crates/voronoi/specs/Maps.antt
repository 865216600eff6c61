-- The promises of the calls that write a cell's polygon, or those of all cells: the number, the bytes written and the output at exit, and where each polygon begins.
-- What the bytes are, and that they are read back: Polygon, Read and ReadBack of crate wkb; the polygons of all cells beside those of one: Singles.
use Rattle.std.specs.Prelude.{List, ℕ, Float}
use Rattle.wkb.specs.Promise.{WkbAnswer, FloatAnswer}
use Rattle.all_wkb.specs.Promise.{AllWkbAnswer}

-- vertices as patterns: 1, 4, 16, 18, 2
abbrev pub CellWkbBits : List ℕ → List ℕ → List ℕ → ℕ → List ℕ → List ℕ → ℕ → ℕ → Type 0
CellWkbBits = WkbAnswer

-- vertices as floats, each by its pattern
abbrev pub CellWkb : List Float → List ℕ → List ℕ → ℕ → List ℕ → List ℕ → ℕ → ℕ → Type 0
CellWkb = FloatAnswer

-- of all cells: 1, 16, 18, 2
abbrev pub AllWkb : List Float → List ℕ → List ℕ → List ℕ → List ℕ → List ℕ → List ℕ → ℕ → ℕ → Type 0
AllWkb = AllWkbAnswer
