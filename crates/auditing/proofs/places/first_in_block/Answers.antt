-- `auditing::places::first_in_block` meets its contract: no site that was passed has one of the block before it.
use Rattle.std.proofs.Common.{◌≡◌, arith, refl}
use Rattle.ring_area.specs.lowest.laws.Loops.{passed_end}
use Rattle.auditing.specs.places.laws.Blocks.{block_start, block_step, block_found}
use Rattle.auditing.proofs.places.first_in_block.Goals as goal

pub loop-s-init : goal.loop-s-init
loop-s-init c = block_start _ (omega (arith, c.requires.0)) refl refl

pub returns-then-visit : goal.returns-then-visit
returns-then-visit c = block_found _ c.loop-s.invariant c.loop-s-test.true c.visit.ensures c.if-visit.true

pub returns : goal.returns
returns c =
    let e : c.loop-s.s ≡ c.args.best = omega (arith, c.requires.0) in
    passed_end (rw e at c.loop-s.invariant.none) (omega arith)
