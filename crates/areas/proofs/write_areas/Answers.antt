-- All places are written.
use Rattle.std.proofs.Common.{arith}
use Rattle.areas.specs.laws.Writes.{writing_end}
use Rattle.areas.proofs.write_areas.Goals as goal

pub returns : goal.returns
returns c = record { areas = writing_end c.loop-s.invariant (omega arith) }
