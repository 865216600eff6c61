-- The loop ends where s is EMPTY, or with as many sites as there are.
use Rattle.std.proofs.Common.{arith, length-set}
use Rattle.std.specs.Prelude.{◌≡◌, refl, length}
use Rattle.mending.specs.border.laws.Tracing.{tracing_step, tracing_done, tracing_full}
use Rattle.mending.proofs.border.trace.Goals as goal

pub returns-then-s : goal.returns-then-s
returns-then-s c = tracing_done _ _ _ _ _ _ c.loop-k.invariant c.if-s.true

pub loop-k-preserved : goal.loop-k-preserved
loop-k-preserved c =
    tracing_step _ _ _ _ _ _ c.loop-k.invariant c.requires.0 c.loop-k-test.true c.if-s.false _ _ c.wide.ensures c.step-s.ensures _
    (length-set c.loop-k.mended c.loop-k.k c.loop-k.s) refl

pub returns : goal.returns
returns c =
    let z : c.loop-k.k ≡ length c.args.work.now = omega (arith, c.loop-k.auto.k-end) in
    rw z at (tracing_full _ _ _ _ _ _ c.loop-k.invariant (omega arith))
