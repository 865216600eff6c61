-- A try that is refused ends it, another carries it one place further.
use Rattle.cell_builder.specs.turned.laws.TryLoops.{hulls_amid, hulls_step, hulls_refused, hulls_end}
use Rattle.cell_builder.proofs.turned.loops.clip_hull.Goals as goal

pub clip_at_hull-r-requires : goal.clip_at_hull-r-requires
clip_at_hull-r-requires c = hulls_amid _ _ _ _ _ _ _ _ c.loop-i.invariant c.requires c.loop-i-test.true

pub returns-then-fault-ne0 : goal.returns-then-fault-ne0
returns-then-fault-ne0 c = hulls_refused _ _ _ _ _ _ _ _ c.loop-i.invariant c.loop-i-test.true _ _ _ c.clip_at_hull-r.ensures c.if-fault-ne0.true

pub loop-i-preserved : goal.loop-i-preserved
loop-i-preserved c = hulls_step _ _ _ _ _ _ _ _ c.loop-i.invariant c.loop-i-test.true _ _ _ c.clip_at_hull-r.ensures c.if-fault-ne0.false

pub returns : goal.returns
returns c = hulls_end _ _ _ _ _ _ _ _ c.loop-i.invariant c.loop-i-test.false
