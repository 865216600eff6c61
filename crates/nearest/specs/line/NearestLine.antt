-- The line of `nearest` for each answer. Definitions only.
use Rattle.std.specs.Prelude.{ℕ, List, [], ◌∷◌, ◌++◌, ⊤, Result, Ok, Err}
use Rattle.printing.specs.parts.Text.{ascii}
use Rattle.printing.specs.parts.Labelled.{entries}
use Rattle.nearest.specs.declared.line.Offence.{Offence}
use Rattle.nearest.specs.declared.line.Offence.TheVariants.{Triangle, Halfedge, HullPlace, Unused, Corner, OffGrid, Refused}

-- that every walk ends at a nearest site, or why that is not said
abbrev pub NearestLine : Type 0
NearestLine = Result ⊤ Offence

-- the label names what the number is
unfoldable pub number_line : List ℕ → ℕ → List ℕ
number_line label n = (label ++ entries (n ∷ [])) ++ ascii "\n"

unfoldable pub corner_line : ℕ → List ℕ
corner_line c = (ascii "corner" ++ entries (c ∷ [])) ++ ascii " is not admitted\n"

abbrev pub nearest_line : NearestLine → List ℕ
nearest_line (Ok _) = ascii "nearest\n"
nearest_line (Err (Triangle t)) = number_line (ascii "triangle") t
nearest_line (Err (Halfedge e)) = number_line (ascii "half-edge") e
nearest_line (Err (HullPlace i)) = number_line (ascii "hull place") i
nearest_line (Err (Unused s)) = number_line (ascii "unused") s
nearest_line (Err (Corner c)) = corner_line c
nearest_line (Err (OffGrid s)) = number_line (ascii "not on the grid: site") s
nearest_line (Err (Refused n)) = number_line (ascii "refused") n
