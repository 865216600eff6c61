-- Rows: the line of each kind of reason. By computation.
use Rattle.std.specs.Prelude.{◌≡◌, refl}
use Rattle.printing.specs.parts.Text.{ascii, digits, decimal}
use Rattle.printing.specs.parts.Labelled.{entries, labelled, refusal}
use Rattle.reasons.specs.declared.Reason.TheVariants.{NoFault, Number, AtSite, AtTriangle, AtHalfEdge, AtHullPlace, AtEdge, Unused, TriesEmpty, Dropped}
use Rattle.why.specs.line.ReasonLine.{place_line, edge_ends, edge_line, empty_line, dropped_line, reason_line}

pub lines :
    (reason_line NoFault ≡ ascii "no fault\n")
    × (reason_line (Number 17) ≡ ascii "refused 17\n")
    × (reason_line (AtSite 6 3) ≡ ascii "refused 6: site 3\n")
    × (reason_line (AtTriangle 7 1) ≡ ascii "refused 7: triangle 1\n")
    × (reason_line (AtHalfEdge 8 2) ≡ ascii "refused 8: half-edge 2\n")
    × (reason_line (AtHullPlace 9 2) ≡ ascii "refused 9: hull place 2\n")
    × (reason_line (AtHalfEdge 9 3) ≡ ascii "refused 9: half-edge 3\n")
    × (reason_line (AtEdge 13 0 0 7) ≡ ascii "refused 13: cell 0 from 0 to 7\n")
    × (reason_line (Unused 4) ≡ ascii "empty 4: in no triangle\n")
    × (reason_line (TriesEmpty 0) ≡ ascii "empty 0: every try gave nothing\n")
    × (reason_line (Dropped 2 0 1) ≡ ascii "dropped 2 0: 1 shared\n")
unfolding digits decimal entries labelled refusal place_line edge_ends edge_line empty_line dropped_line
lines = (refl, refl, refl, refl, refl, refl, refl, refl, refl, refl, refl)
