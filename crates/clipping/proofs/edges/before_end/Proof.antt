-- `clipping::edges::before_end` meets its contract: it asks the definition's question.
use Rattle.clipping.specs.edges.laws.EdgeClip.{comes_before, comes_after}
use borrow.Author.Rules.{rules}
use Rattle.clipping.proofs.edges.before_end.Statement.{statement}
use Rattle.clipping.proofs.edges.before_end.Tie as tie

returns : tie.Need-returns-then-first_is
returns c =
    let a = c.args in
    comes_before a.p a.q a.d a.x a.y a.u a.v _ _ c.order_points_on_ray-ordered.ensures c.first_is.ensures c.if-first_is.true

returns-2 : tie.Need-returns
returns-2 c =
    let a = c.args in
    comes_after a.p a.q a.d a.x a.y a.u a.v _ _ c.order_points_on_ray-ordered.ensures c.first_is.ensures c.if-first_is.false

pub before_end_spec : {M : Type 1} → statement M
before_end_spec =
    tie.close (tie.spec (λ c κs. search rules) (λ c κs. search rules) returns returns-2)
