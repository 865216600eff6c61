-- What `export` prints, said of the bytes of its input: a line for each cell of what the build makes of the mesh whose form they are, or the line of a refusal.
-- Definitions only.
use Rattle.std.specs.Prelude.{List, [], ◌∷◌, ◌++◌, map, ℕ, suc}
use Rattle.printing.specs.Printed.{Text}
use Rattle.plane.specs.points.Flat.{flat}
use Rattle.definition.specs.Build.{Built}
use Rattle.definition.specs.Cell.{unmarked}
use Rattle.wkb.specs.Polygon.{patterns}
use Rattle.wkb.specs.Promise.{image}
use Rattle.export.specs.map_text.MapText.{heading, map_line}

-- ---- the text of a build

-- the lines of cells over the vertices' patterns v, of which the first is cell i
unfoldable pub drawn_from : List ℕ → ℕ → List (List ℕ) → List ℕ
drawn_from v i [] = []
drawn_from v i (c ∷ cs) = map_line i (image v c) ++ drawn_from v (suc i) cs

abbrev pub exported : Built → List ℕ
exported b = heading ++ drawn_from (patterns (flat b.verts)) 0 (map unmarked b.cells)

-- what is printed is `Prints export_text` (crate printing)
abbrev pub export_text : Text
export_text m g b = exported b
