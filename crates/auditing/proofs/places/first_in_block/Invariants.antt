-- No site that was passed has one of the block before it.
use Rattle.auditing.specs.places.laws.Blocks.{BlockTo}
use Rattle.auditing.proofs.places.first_in_block.Given as goal

abbrev pub invariant-loop-s : goal.invariant-loop-s
invariant-loop-s l = BlockTo l.sites l.a l.best l.s l.heads l.links
