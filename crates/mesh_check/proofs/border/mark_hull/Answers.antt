-- A place whose site has a mark already is the first that is not fresh; another is marked.
use Rattle.std.proofs.Common.{arith}
use Rattle.mesh_check.specs.border.laws.Loops.{marking_start, twice, marking_step}
use Rattle.mesh_check.proofs.border.mark_hull.Goals as goal

pub loop-i-init : goal.loop-i-init
loop-i-init c =
    let m = marking_start _ _ _ _ c.clear.ensures c.clear.auto.work in
    record { room = m.room; long = c.clear.auto.work; marks = rw c.clear.auto.work at m.marks; fresh = m.fresh }

pub returns-then-mark : goal.returns-then-mark
returns-then-mark c =
    (twice _ _ _ _ _ _ c.loop-i.invariant (omega arith) (omega arith) (omega arith) c.wide-h.ensures (omega arith) c.if-mark.true, c.loop-i.invariant.marks)

pub loop-i-preserved : goal.loop-i-preserved
loop-i-preserved c = marking_step _ _ _ _ _ _ c.loop-i.invariant (omega arith) (omega arith) (omega arith) c.wide-h.ensures (omega arith) c.if-mark.false
