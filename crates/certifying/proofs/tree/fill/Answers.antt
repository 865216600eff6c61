-- `certifying::tree::fill` meets its contract: the nodes that were passed are filled.
use Rattle.certifying.specs.tree.laws.Nodes.{filled_step, fill_again, filled_all, block_below, blocks_all}
use Rattle.certifying.proofs.tree.fill.Goals as goal

pub fill_node-requires : goal.fill_node-requires
fill_node-requires c = (fill_again c.requires c.loop-b.invariant.kept c.requires.after, block_below c.requires.some c.div_ceil-b-end.ensures c.loop-b-test.true)

pub loop-b-preserved : goal.loop-b-preserved
loop-b-preserved c = filled_step c.requires.after c.loop-b.invariant c.fill_node.ensures

pub returns : goal.returns
returns c = filled_all c.requires c.loop-b.invariant (blocks_all c.requires.some c.div_ceil-b-end.ensures c.loop-b-test.false)
