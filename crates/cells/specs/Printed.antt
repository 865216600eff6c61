-- What `cells` prints, said of the bytes of its input: the listing of what the build makes of the mesh whose form they are, or the line of a refusal. Definitions only.
use Rattle.std.specs.Prelude.{List, [], ◌∷◌, ◌++◌, map, ℕ, suc, ◌/◌, length}
use Rattle.printing.specs.Printed.{Text}
use Rattle.mesh.specs.Accepted.{site_count}
use Rattle.definition.specs.Build.{Built}
use Rattle.definition.specs.Cell.{unmarked, extension, firstCrossing, secondCrossing}
use Rattle.definition.specs.Reused.{reused_of}
use Rattle.cells.specs.listing.Listing.{counts, cell_line, corners, reused_line}

-- ---- the text of a build of n sites and T triangles

-- the lines of cells, of which the first is cell i
unfoldable pub lines_of : ℕ → List (List ℕ) → List ℕ
lines_of i [] = []
lines_of i (c ∷ cs) = cell_line i c ++ lines_of (suc i) cs

abbrev pub listing_of : ℕ → ℕ → Built → List ℕ
listing_of n T b =
    counts n T (length b.verts) ++ lines_of 0 (map unmarked b.cells) ++ corners b.owners b.lost
    ++ reused_line (reused_of extension b.steps) (reused_of firstCrossing b.steps) (reused_of secondCrossing b.steps)

-- what is printed is `Prints listing_text` (crate printing)
abbrev pub listing_text : Text
listing_text m g b = listing_of (site_count m.sites) (length m.triangles / 3) b
