-- `cutting_writer::short::lay`: one more, where there is room.
use Rattle.std.proofs.Common.{arith}
use Rattle.cutting_writer.specs.slots.laws.Putting.{put_made}
use Rattle.cutting_writer.specs.short.laws.Laying.{laid_put}
use Rattle.cutting_writer.proofs.short.lay.Goals as goal

pub returns : goal.returns
returns c = let a = c.args in laid_put a.k (omega (arith, c.if-k-ge-HALF.false)) (put_made a.slots.now a.k a.v (omega (arith, c.if-k-ge-HALF.false, c.requires)))
