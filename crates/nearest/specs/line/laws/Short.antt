-- How long a line is.
use Rattle.std.specs.Prelude.{ℕ, ◌+◌, ◌≤◌, List, [], ◌∷◌, ◌++◌, length, Ok, Err}
use Rattle.std.proofs.Common.{arith, length-append}
use Rattle.printing.specs.parts.Text.{ascii}
use Rattle.printing.specs.parts.Labelled.{entries}
use Rattle.printing.specs.parts.laws.Labelled.{entries_short}
use Rattle.nearest.specs.declared.line.Offence.TheVariants.{Triangle, Halfedge, HullPlace, Unused, Corner, OffGrid, Refused}
use Rattle.nearest.specs.line.NearestLine.{NearestLine, number_line, corner_line, nearest_line}

number_short : (label : List ℕ) (n : ℕ) → length (number_line label n) ≤ length label + 12
unfolding number_line
number_short label n = omega (arith, length-append (label ++ entries (n ∷ [])) (ascii "\n"), length-append label (entries (n ∷ [])), entries_short (n ∷ []))

corner_short : (c : ℕ) → length (corner_line c) ≤ 34
unfolding corner_line
corner_short c =
    omega (arith, length-append (ascii "corner" ++ entries (c ∷ [])) (ascii " is not admitted\n"), length-append (ascii "corner") (entries (c ∷ [])), entries_short (c ∷ []))

pub line_short : (l : NearestLine) → length (nearest_line l) ≤ 34
line_short (Ok _) = omega arith
line_short (Err (Triangle t)) = omega (arith, number_short (ascii "triangle") t)
line_short (Err (Halfedge e)) = omega (arith, number_short (ascii "half-edge") e)
line_short (Err (HullPlace i)) = omega (arith, number_short (ascii "hull place") i)
line_short (Err (Unused s)) = omega (arith, number_short (ascii "unused") s)
line_short (Err (Corner c)) = corner_short c
line_short (Err (OffGrid s)) = omega (arith, number_short (ascii "not on the grid: site") s)
line_short (Err (Refused n)) = omega (arith, number_short (ascii "refused") n)
