-- A turn is `going_step`; the walk has ended, or the room is full.
use Rattle.std.proofs.Common.{◌≡◌, length, arith}
use Rattle.std.proofs.lemmas.List.{set-get_or}
use Rattle.mesh.specs.laws.WalkSteps.{going_step, going_done, going_full}
use Rattle.mesh.proofs.walk.Goals as goal

pub returns-then-halfedges-at : goal.returns-then-halfedges-at
returns-then-halfedges-at c = rw set-get_or (going_done _ _ _ _ _ _ c.loop-n.invariant (omega arith))

pub loop-n-preserved : goal.loop-n-preserved
loop-n-preserved c = going_step _ _ _ _ _ _ c.loop-n.invariant _ (omega arith) (omega arith) (rw c.wide-at.ensures at c.turn-e.ensures)

pub returns : goal.returns
returns c =
    let q : length c.loop-n.out ≡ c.loop-n.n = omega arith in
    rw (q, c.wide.ensures) (going_full _ _ _ _ _ _ c.loop-n.invariant (omega arith))
