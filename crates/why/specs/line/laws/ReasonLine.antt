-- How long the line of a reason is.
use Rattle.std.specs.Prelude.{List, [], ◌∷◌, ◌++◌, ℕ, ◌+◌, ◌≤◌, length}
use Rattle.std.proofs.Common.{arith, length-append}
use Rattle.printing.specs.parts.Text.{ascii}
use Rattle.printing.specs.parts.Labelled.{entries, labelled}
use Rattle.printing.specs.parts.laws.Labelled.{entries_short, labelled_short, refusal_short}
use Rattle.reasons.specs.declared.Reason.{Reason}
use Rattle.reasons.specs.declared.Reason.TheVariants.{NoFault, Number, AtSite, AtTriangle, AtHalfEdge, AtHullPlace, AtEdge, Unused, TriesEmpty, Dropped}
use Rattle.why.specs.line.ReasonLine.{place_line, edge_ends, edge_line, empty_line, dropped_line, reason_line}

place_short : (n : ℕ) (label : List ℕ) (i : ℕ) → length (place_line n label i) ≤ length label + 30
unfolding place_line
place_short n label i =
    let a = labelled "refused" n in
    let b = label ++ entries (i ∷ []) in
    omega (
      arith,
      length-append (a ++ b) (ascii "\n"),
      length-append a b,
      length-append label (entries (i ∷ [])),
      labelled_short "refused" n,
      entries_short (i ∷ []),
    )

ends_short : (p q : ℕ) → length (edge_ends p q) ≤ 31
unfolding edge_ends
ends_short p q =
    let a = labelled " from" p in
    let b = labelled " to" q in
    omega (arith, length-append (a ++ b) (ascii "\n"), length-append a b, labelled_short " from" p, labelled_short " to" q)

edge_short : (n s p q : ℕ) → length (edge_line n s p q) ≤ 66
unfolding edge_line
edge_short n s p q =
    let a = labelled "refused" n in
    let b = labelled ": cell" s in
    omega (arith, length-append (a ++ b) (edge_ends p q), length-append a b, labelled_short "refused" n, labelled_short ": cell" s, ends_short p q)

empty_short : (s : ℕ) (why : List ℕ) → length (empty_line s why) ≤ 16 + length why
unfolding empty_line
empty_short s why = omega (arith, length-append (labelled "empty" s) why, labelled_short "empty" s)

dropped_short : (s t k : ℕ) → length (dropped_line s t k) ≤ 49
unfolding dropped_line
dropped_short s t k =
    let a = labelled "dropped" s in
    let b = entries (t ∷ []) in
    let c = labelled ":" k in
    omega (
      arith,
      length-append (a ++ b ++ c) (ascii " shared\n"),
      length-append (a ++ b) c,
      length-append a b,
      labelled_short "dropped" s,
      entries_short (t ∷ []),
      labelled_short ":" k,
    )

pub line_short : (r : Reason) → length (reason_line r) ≤ 66
line_short NoFault = omega arith
line_short (Number n) = omega (arith, refusal_short n)
line_short (AtSite n s) = omega (arith, place_short n (ascii ": site") s)
line_short (AtTriangle n t) = omega (arith, place_short n (ascii ": triangle") t)
line_short (AtHalfEdge n e) = omega (arith, place_short n (ascii ": half-edge") e)
line_short (AtHullPlace n i) = omega (arith, place_short n (ascii ": hull place") i)
line_short (AtEdge n s p q) = edge_short n s p q
line_short (Unused s) = omega (arith, empty_short s (ascii ": in no triangle\n"))
line_short (TriesEmpty s) = omega (arith, empty_short s (ascii ": every try gave nothing\n"))
line_short (Dropped s t k) = omega (arith, dropped_short s t k)
