-- The walk's next half-edge if there is one; else, past the walk's last half-edge, the end that the hull adds.
use borrow.Author.Rules.{rules}
use mathlib.Core.Path.{refl}
use Rattle.walks.specs.neighbours.laws.Cursor.{step_walks, step_last, step_end}
use Rattle.walks.proofs.neighbours.step.Statement.{statement}
use Rattle.walks.proofs.neighbours.step.Tie as tie

returns : tie.Need-returns-then-next-halfedges
returns c = step_walks _ _ _ _ _ _ c.wide-next.ensures c.if-next-halfedges.true refl c.turn.ensures

returns-2 : tie.Need-returns-then-last-halfedges
returns-2 c = step_last _ _ _ _ _ _ c.wide-next.ensures c.if-next-halfedges.false
    c.wide-last.ensures c.if-last-halfedges.true c.last_step.ensures

returns-3 : tie.Need-returns
returns-3 c = step_end _ _ _ _ _ c.wide-next.ensures c.if-next-halfedges.false c.wide-last.ensures c.if-last-halfedges.false

pub step_spec : {M : Type 1} → statement M
step_spec =
    tie.close
    (tie.spec (λ c κs. search rules) (λ c. search rules) (λ c. search rules) (λ c κs. search rules) returns
    (λ c κs. search rules) (λ c κs. search rules) returns-2 returns-3)
