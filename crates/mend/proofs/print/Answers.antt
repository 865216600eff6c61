-- `mend::print` is safe: the option's record is one.
use Rattle.std.proofs.Common.{arith}
use Rattle.mend.specs.boxes.Record.{is_option_lem}
use Rattle.mend.proofs.print.Goals as goal

pub answer-m-requires : goal.answer-m-requires
answer-m-requires c = (rw c.record_of-k.ensures.0 (is_option_lem c.args.boxed c.args.digits.now), omega arith)
