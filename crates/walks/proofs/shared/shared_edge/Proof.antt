-- Both triangles are there, and the first half-edge of the one that the other names is the answer; or one is not there.
use mathlib.Core.Path.{refl}
use Rattle.walks.specs.shared.laws.Edge.{no_first, no_second, both_there}
use borrow.Author.Rules.{rules}
use Rattle.walks.proofs.shared.shared_edge.Statement.{statement}
use Rattle.walks.proofs.shared.shared_edge.Tie as tie

returns : tie.Need-returns-then-halfedges-wide
returns c = no_first _ _ _ _ c.wide.ensures c.if-halfedges-wide.true

returns-2 : tie.Need-returns-then-halfedges-f
returns-2 c = no_second _ _ _ _ _ _ c.wide.ensures c.if-halfedges-wide.false c.wide-f.ensures refl c.if-halfedges-f.true

returns-3 : tie.Need-returns
returns-3 c =
    let at-wide2 = c in
    let at-if1 = at-wide2 in
    let at_wide = at-if1 in
    rw (c.first_of.ensures, c.names-3.ensures, c.names-2.ensures, c.names.ensures)
    (both_there _ _ _ _ _ _ at_wide.wide.ensures at-if1.if-halfedges-wide.false at-wide2.wide-f.ensures refl c.if-halfedges-f.false)

pub shared_edge_spec : {M : Type 1} → statement M
shared_edge_spec =
    tie.close
    (tie.spec (λ c κs. search rules) (λ c. search rules) returns (λ c κs. search rules) (λ c. search rules) returns-2
    (λ c. search rules) (λ c κs. search rules) (λ c. search rules) (λ c κs. search rules) (λ c. search rules)
    (λ c κs. search rules) (λ c κs. search rules) returns-3)
