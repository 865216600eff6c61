-- The listing of docs/use/RULES.md, line by line. Definitions only.
use Rattle.std.specs.Prelude.{List, [], ◌∷◌, ◌++◌, ℕ, zero, suc}
use Rattle.printing.specs.parts.Text.{ascii}
use Rattle.printing.specs.parts.Labelled.{entries, labelled}
use Rattle.printing.specs.parts.Listed.{listed_cell}

unfoldable pub counts : ℕ → ℕ → ℕ → List ℕ
counts sites triangles vertices = labelled "sites" sites ++ labelled " triangles" triangles ++ labelled " vertices" vertices ++ ascii "\n"

-- an empty cell ends with its colon
unfoldable pub cell_line : ℕ → List ℕ → List ℕ
cell_line i cell = labelled "cell" i ++ ascii ":" ++ entries cell ++ ascii "\n"

-- the lines of n cells from cell i on
unfoldable pub cell_lines : List ℕ → List ℕ → ℕ → ℕ → List ℕ
cell_lines offsets cells i zero = []
cell_lines offsets cells i (suc n) = cell_line i (listed_cell offsets cells i) ++ cell_lines offsets cells (suc i) n

-- all but the last two lines
unfoldable pub counts_and_cells : ℕ → ℕ → ℕ → List ℕ → List ℕ → List ℕ
counts_and_cells sites triangles vertices offsets cells = counts sites triangles vertices ++ cell_lines offsets cells 0 sites

unfoldable pub corners : List ℕ → ℕ → List ℕ
corners owners lost = ascii "corners" ++ entries owners ++ labelled " lost" lost ++ ascii "\n"

-- how many extensions, first crossings and second crossings reused a point
unfoldable pub reused_line : ℕ → ℕ → ℕ → List ℕ
reused_line extensions firsts seconds = ascii "reused" ++ entries (extensions ∷ firsts ∷ seconds ∷ []) ++ ascii "\n"

unfoldable pub listing : ℕ → ℕ → ℕ → List ℕ → List ℕ → List ℕ → ℕ → ℕ → ℕ → ℕ → List ℕ
listing sites triangles vertices offsets cells owners lost extensions firsts seconds =
    counts_and_cells sites triangles vertices offsets cells ++ corners owners lost ++ reused_line extensions firsts seconds
