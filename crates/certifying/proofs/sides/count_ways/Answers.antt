-- `certifying::sides::count_ways` meets its contract.
use Rattle.std.proofs.Common.{arith}
use Rattle.certifying.specs.sides.laws.Walking.{ways_start, way_below, counts_few, next_less, ways_step, ways_end, runs_is}
use Rattle.certifying.specs.sides.laws.Inserting.{side_safe, side_to}
use Rattle.certifying.specs.sides.laws.Tallies.{bit_from, bit_small}
use Rattle.certifying.proofs.sides.count_ways.Goals as goal

pub bucket-m-requires : goal.bucket-m-requires
bucket-m-requires c = (c.requires.0, c.requires.1.lie.few)

pub overflow_mul-m : goal.overflow_mul-m
overflow_mul-m c = omega (arith, c.requires.1.lie.few, c.bucket-m.ensures.1)

pub bounds-work-m : goal.bounds-work-m
bounds-work-m c = omega (arith, c.requires.1.lie.room, c.bucket-m.ensures.1)

pub loop-x-init : goal.loop-x-init
loop-x-init c = ways_start c.requires.1 _ _ c.bucket-m.ensures.0 c.bucket-m.ensures.1 c.wide-x.ensures

pub side_at-side-requires : goal.side_at-side-requires
side_at-side-requires c = side_safe c.requires.1.lie (way_below c.requires.1 _ _ c.loop-x.invariant c.loop-x-test.true)

pub overflow_add-there : goal.overflow_add-there
overflow_add-there c =
    omega (
      arith,
      c.requires.1.lie.few,
      (counts_few c.requires.1 _ _ c.loop-x.invariant c.loop-x-test.true).0,
      bit_from c.runs.result c.from-there.ensures,
      bit_small c.runs.result,
    )

pub overflow_add-back : goal.overflow_add-back
overflow_add-back c =
    omega (
      arith,
      c.requires.1.lie.few,
      (counts_few c.requires.1 _ _ c.loop-x.invariant c.loop-x-test.true).1,
      bit_from c.runs-in-loop-x.result c.from-back.ensures,
      bit_small c.runs-in-loop-x.result,
    )

pub overflow_mul-k : goal.overflow_mul-k
overflow_mul-k c = omega (arith, c.requires.1.lie.few, way_below c.requires.1 _ _ c.loop-x.invariant c.loop-x-test.true)

pub overflow_add-k : goal.overflow_add-k
overflow_add-k c = omega (arith, c.requires.1.lie.few, way_below c.requires.1 _ _ c.loop-x.invariant c.loop-x-test.true)

pub offset_bounds-work-k : goal.offset_bounds-work-k
offset_bounds-work-k c = omega (arith, c.requires.1.lie.few, way_below c.requires.1 _ _ c.loop-x.invariant c.loop-x-test.true)

pub bounds-work-k : goal.bounds-work-k
bounds-work-k c = omega (arith, c.requires.1.lie.room, way_below c.requires.1 _ _ c.loop-x.invariant c.loop-x-test.true)

pub loop-x-smaller : goal.loop-x-smaller
loop-x-smaller c = next_less c.requires.1 _ _ c.loop-x.invariant c.loop-x-test.true c.wide-x-in-loop-x.ensures

pub loop-x-preserved : goal.loop-x-preserved
loop-x-preserved c =
    let below = way_below c.requires.1 _ _ c.loop-x.invariant c.loop-x-test.true in
    let to = side_to c.requires.1.lie below c.side_at-side.ensures.1 in
    ways_step c.requires.1 _ _ c.loop-x.invariant c.loop-x-test.true
    (runs_is _ _ _ _ _ _ c.side_at-side.ensures.0 to c.runs.ensures (bit_from c.runs.result c.from-there.ensures))
    (runs_is _ _ _ _ _ _ c.side_at-side.ensures.0 to c.runs-in-loop-x.ensures (bit_from c.runs-in-loop-x.result c.from-back.ensures)) c.wide-x-in-loop-x.ensures

pub returns : goal.returns
returns c = ways_end c.requires.1 _ _ c.loop-x.invariant (omega (arith, c.loop-x-test.false))
