-- The line of `why` for each reason. Definitions only.
use Rattle.std.specs.Prelude.{List, [], ◌∷◌, ◌++◌, ℕ}
use Rattle.printing.specs.parts.Text.{ascii}
use Rattle.printing.specs.parts.Labelled.{entries, labelled, refusal}
use Rattle.reasons.specs.declared.Reason.{Reason}
use Rattle.reasons.specs.declared.Reason.TheVariants.{NoFault, Number, AtSite, AtTriangle, AtHalfEdge, AtHullPlace, AtEdge, Unused, TriesEmpty, Dropped}

-- a refusal with its place, which the label names
unfoldable pub place_line : ℕ → List ℕ → ℕ → List ℕ
place_line number label place = labelled "refused" number ++ (label ++ entries (place ∷ [])) ++ ascii "\n"

unfoldable pub edge_ends : ℕ → ℕ → List ℕ
edge_ends from to = labelled " from" from ++ labelled " to" to ++ ascii "\n"

-- a refusal at an edge of a cell's ring
unfoldable pub edge_line : ℕ → ℕ → ℕ → ℕ → List ℕ
edge_line number cell from to = labelled "refused" number ++ labelled ": cell" cell ++ edge_ends from to

unfoldable pub empty_line : ℕ → List ℕ → List ℕ
empty_line site why = labelled "empty" site ++ why

unfoldable pub dropped_line : ℕ → ℕ → ℕ → List ℕ
dropped_line site neighbour shared = labelled "dropped" site ++ entries (neighbour ∷ []) ++ labelled ":" shared ++ ascii " shared\n"

abbrev pub reason_line : Reason → List ℕ
reason_line NoFault = ascii "no fault\n"
reason_line (Number n) = refusal n
reason_line (AtSite n s) = place_line n (ascii ": site") s
reason_line (AtTriangle n t) = place_line n (ascii ": triangle") t
reason_line (AtHalfEdge n e) = place_line n (ascii ": half-edge") e
reason_line (AtHullPlace n i) = place_line n (ascii ": hull place") i
reason_line (AtEdge n s p q) = edge_line n s p q
reason_line (Unused s) = empty_line s (ascii ": in no triangle\n")
reason_line (TriesEmpty s) = empty_line s (ascii ": every try gave nothing\n")
reason_line (Dropped s t k) = dropped_line s t k
