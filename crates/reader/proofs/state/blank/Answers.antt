-- `reader::state::blank` meets its contract: what is left of the words is blank exactly where all are.
use Rattle.std.proofs.Common.{arith}
use Rattle.reader.specs.state.laws.Blank.{blanking_start, blanking_found, blanking_step, blanking_end}
use Rattle.reader.proofs.state.blank.Goals as goal

pub loop-word-init : goal.loop-word-init
loop-word-init c = blanking_start _

pub returns-then-word-ne0 : goal.returns-then-word-ne0
returns-then-word-ne0 c = blanking_found c.loop-word.invariant (omega arith) c.if-word-ne0.true

pub loop-word-preserved : goal.loop-word-preserved
loop-word-preserved c = blanking_step c.loop-word.invariant (omega arith) c.if-word-ne0.false

pub returns : goal.returns
returns c = blanking_end c.loop-word.invariant (omega arith)
