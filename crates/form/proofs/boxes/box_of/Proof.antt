-- `form::boxes::box_of`: by the kind, each number in its place.
use borrow.Author.Rules.{rules}
use borrow.Author.Tests.{eq-eqb, ne_eqb}
use Rattle.form.proofs.boxes.box_of.Statement.{statement}
use Rattle.form.proofs.boxes.box_of.Tie as tie

returns : tie.Need-returns-then-kind-eq-EDGES
returns c = rw (eq-eqb _ _ c.if-kind-eq-EDGES.true) c.by_edges.ensures

returns-2 : tie.Need-returns
returns-2 c = rw (ne_eqb _ _ c.if-kind-eq-EDGES.false) c.by_size.ensures

pub box_of_spec : {M : Type 1} → statement M
box_of_spec = tie.close (tie.spec (λ c. search rules) (λ c. search rules) (λ c. search rules) (λ c. search rules) (λ c κs. tt) returns
    (λ c. search rules) (λ c. search rules) (λ c. search rules) (λ c. search rules) (λ c κs. tt) returns-2)
