-- `certifying::tree::passed` meets its contract.
use Rattle.std.proofs.Common.{arith, le_of_lt, lt_of_lt_of_le}
use Rattle.certifying.specs.tree.laws.Nodes.{end_past_min}
use Rattle.certifying.specs.tree.laws.Search.{passed_out, passed_stop, passed_block}
use Rattle.certifying.proofs.tree.passed.Goals as goal

pub places_out-r-requires : goal.places_out-r-requires
places_out-r-requires c = (c.requires.0.tree, c.requires.0.held, c.requires.0.keeps.edges, c.requires.1)

pub returns-then-r-gt0 : goal.returns-then-r-gt0
returns-then-r-gt0 c = passed_out c.requires.0 c.args.j c.requires.1 c.places_out-r.ensures.0 c.if-r-gt0.true c.places_out-r.ensures.1

pub overflow_add-j : goal.overflow_add-j
overflow_add-j c = omega (arith, c.requires.1, c.requires.0.tree.few)

pub sift-count-requires : goal.sift-count-requires
sift-count-requires c = (
  c.requires.0.tree,
  c.requires.0.held,
  c.requires.0.keeps.edges,
  omega (arith, c.min-to.ensures),
  omega (arith, c.min-to.ensures),
  omega arith,
  le_of_lt (end_past_min _ _ _ _ c.requires.1 (omega arith) c.min-to.ensures),
)

pub some_listed-requires : goal.some_listed-requires
some_listed-requires c = (
  c.requires.0.tree.order,
  c.requires.0.named,
  record {
    few = omega (arith, c.sift-count.ensures.0.few, c.min-to.ensures, c.sift-count.ensures.1);
    each = λ k h. lt_of_lt_of_le (c.sift-count.ensures.0.named k h) (omega (arith, c.min-to.ensures));
  },
)

pub returns-then-some_listed : goal.returns-then-some_listed
returns-then-some_listed c = passed_stop c.requires.0 c.args.j c.requires.1 c.some_listed.ensures c.if-some_listed.true

pub overflow_sub-result : goal.overflow_sub-result
overflow_sub-result c = le_of_lt (end_past_min _ _ _ _ c.requires.1 (omega arith) c.min-to.ensures)

pub returns : goal.returns
returns c =
    passed_block c.requires.0 c.args.j c.requires.1 (end_past_min _ _ _ _ c.requires.1 (omega arith) c.min-to.ensures) (omega (arith, c.min-to.ensures))
    c.sift-count.ensures.0 c.some_listed.ensures c.if-some_listed.false
