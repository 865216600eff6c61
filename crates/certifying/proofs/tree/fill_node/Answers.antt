-- `certifying::tree::fill_node` meets its contract.
use Rattle.std.proofs.Common.{arith}
use Rattle.certifying.specs.tree.laws.Nodes.{node_fits, node_filled_min, end_past_min}
use Rattle.certifying.proofs.tree.fill_node.Goals as goal

pub overflow_mul-from : goal.overflow_mul-from
overflow_mul-from c = omega (arith, c.requires.1, c.requires.0.few)

pub overflow_add-from : goal.overflow_add-from
overflow_add-from c = omega (arith, c.requires.1, c.requires.0.few, c.requires.0.most)

pub extremes_from-e-requires : goal.extremes_from-e-requires
extremes_from-e-requires c =
    (c.requires.0.held, c.requires.0.order, end_past_min _ _ _ _ c.requires.1 c.requires.0.some c.min.ensures, omega (arith, c.min.ensures))

pub overflow_mul-b : goal.overflow_mul-b
overflow_mul-b c = omega (arith, node_fits c.requires.0 c.args.b c.requires.1)

pub overflow_add-base : goal.overflow_add-base
overflow_add-base c = omega (arith, node_fits c.requires.0 c.args.b c.requires.1)

pub write_node-requires : goal.write_node-requires
write_node-requires c = node_fits c.requires.0 c.args.b c.requires.1

pub returns : goal.returns
returns c = node_filled_min c.requires.0 c.args.b c.requires.1 c.extremes_from-e.ensures c.min.ensures c.write_node.ensures
