-- A turn is `counting_step`; the walk has ended, or it has as many entries as there are half-edges.
use Rattle.std.proofs.Common.{◌≡◌, ◌∙◌, length, arith}
use Rattle.mesh.specs.laws.WalkSteps.{counting_step, counting_done, counting_full}
use Rattle.mesh.proofs.walk_length.Goals as goal

pub returns-then-halfedges-at : goal.returns-then-halfedges-at
returns-then-halfedges-at c = (counting_done _ _ _ _ c.loop-n.invariant (omega arith), omega arith)

pub loop-n-preserved : goal.loop-n-preserved
loop-n-preserved c = counting_step _ _ _ _ _ c.loop-n.invariant (omega arith) (omega arith) (rw c.wide-at.ensures at c.turn-e.ensures)

pub returns : goal.returns
returns c =
    let q : length c.args.halfedges.now ≡ c.loop-n.n = omega arith in
    (q ∙ counting_full _ _ _ _ c.loop-n.invariant (omega arith), omega arith)
