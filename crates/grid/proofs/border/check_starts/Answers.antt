-- The loop stops at the second place that begins a run.
use Rattle.std.proofs.Common.{arith, below_more}
use Rattle.grid.specs.border.laws.Hulls.{begun_next, lone, second}
use Rattle.grid.proofs.border.check_starts.Goals as goal

pub returns-then-starts-gt1 : goal.returns-then-starts-gt1
returns-then-starts-gt1 c =
    let inv = c.loop-i.invariant in
    record {
      within = omega arith;
      before = inv.2;
      at = λ _. second inv.1 c.start_at.result c.start_at.ensures inv.0 (rw c.counted-starts.ensures at c.if-starts-gt1.true);
    }

pub loop-i-preserved : goal.loop-i-preserved
loop-i-preserved c =
    let inv = c.loop-i.invariant in (
      omega arith,
      rw c.counted-starts.ensures (begun_next inv.1 c.start_at.result c.start_at.ensures),
      below_more _ _ inv.2 (lone inv.1 c.start_at.result c.start_at.ensures (rw c.counted-starts.ensures at c.if-starts-gt1.false)),
    )

pub returns : goal.returns
returns c = record { within = omega arith; before = λ k l. c.loop-i.invariant.2 k (omega arith); at = λ h. absurd (omega arith) }
