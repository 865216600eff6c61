-- `clipping::step::enter_at` meets its contract: the edge from the cell's last entry to the crossing, and the cell is shut.
use mathlib.Core.Path.{refl}
use borrow.Author.Tests.{eq-eqb}
use Rattle.plane.specs.points.Flat.{points}
use Rattle.definition.specs.Cell.{insert_edge, enter_at}
use Rattle.clipping.specs.laws.EdgeOutcome.{alters_enter}
use borrow.Author.Rules.{rules}
use Rattle.clipping.proofs.step.enter_at.Statement.{statement}
use Rattle.clipping.proofs.step.enter_at.Tie as tie

returns : tie.Need-returns
unfolding enter_at
returns c =
    let a = c.args in
    let g = c.insert_edge-done in
    let vs = points a.count a.vertices.now in
    λ ts u. alters_enter a.env.site a.count vs a.cell a.indexes.now g.result _ ts a.reused
    (insert_edge a.env.bounds a.env.centers a.env.site vs a.cell.owners a.cell.last a.cell.last a.first) u
    (rw (eq-eqb a.cell.last a.cell.last refl) at g.ensures.0)

pub enter_at_spec : {M : Type 1} → statement M
enter_at_spec = tie.close (tie.spec (λ c κs. search rules) (λ c. search rules) returns)
