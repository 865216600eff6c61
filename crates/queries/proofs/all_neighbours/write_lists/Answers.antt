-- `queries::all_neighbours::write_lists` meets its contract.
use Rattle.std.proofs.Common.{arith}
use Rattle.queries.specs.all_neighbours.laws.Writes.{writing_start, next_fits, next_few, writing_step, writing_end}
use Rattle.queries.proofs.all_neighbours.write_lists.Goals as goal

pub loop-s-init : goal.loop-s-init
loop-s-init c = writing_start _ _ c.args.starts.now c.args.out.now (omega (arith, c.requires.one_more))

pub append_list-n-requires : goal.append_list-n-requires
append_list-n-requires c = (
  c.requires.listable _ c.loop-s-test.true,
  c.loop-s-test.true,
  omega (arith, c.requires.few_sites, c.loop-s-test.true),
  next_fits _ _ c.loop-s.invariant c.requires.room c.loop-s-test.true,
  next_few _ _ c.loop-s.invariant c.requires.few c.loop-s-test.true,
)

pub overflow_cast-starts : goal.overflow_cast-starts
overflow_cast-starts c = omega (arith, next_few _ _ c.loop-s.invariant c.requires.few c.loop-s-test.true, c.append_list-n.ensures.end)

pub loop-s-preserved : goal.loop-s-preserved
loop-s-preserved c = writing_step _ _ c.loop-s.invariant c.loop-s-test.true c.append_list-n.ensures

pub returns : goal.returns
returns c = writing_end _ _ c.args.starts.now (omega (arith, c.requires.one_more)) c.loop-s.invariant c.loop-s-test.false
