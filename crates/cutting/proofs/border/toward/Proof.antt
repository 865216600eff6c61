-- `cutting::border::toward`: both ends of the half-edge.
use borrow.Author.Rules.{rules}
use Rattle.cutting.proofs.border.toward.Statement.{statement}
use Rattle.cutting.proofs.border.toward.Tie as tie

next_halfedge-requires : tie.Need-next_halfedge-requires
next_halfedge-requires c κs = search rules

returns : tie.Need-returns
returns c =
    let s = c in
    let e = s in
    let w = e in
    rw (← w.wide-e.ensures, ← e.entry_at-a.ensures, ← e.next_halfedge.ensures, ← e.entry_at-z.ensures, ← s.site_at.ensures, ← c.site_at-2.ensures)
    c.normal.ensures

pub toward_spec : {M : Type 1} → statement M
toward_spec = tie.close (tie.spec (λ c κs. tt) (λ c κs. tt) next_halfedge-requires (λ c κs. tt) (λ c κs. tt) (λ c κs. tt) (λ c κs. tt) returns)
