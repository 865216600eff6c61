-- The mesh is admitted, cells that are lent are sound, and the lists are made; or the number is the refusal's.
use Rattle.std.proofs.Common.{refl, ap}
use Rattle.std.specs.Prelude.{not}
use Rattle.base.specs.common.laws.Decide.{granted, refused}
use Rattle.base.specs.refusal.laws.Number.{some_number, handed_on}
use Rattle.queries.specs.bulk_neighbours.laws.Answers.{all_refused, all_denied, lists_fit, all_made}
use Rattle.queries.proofs.bulk_neighbours.all_neighbours.Goals as goal

pub returns-in_err-admit_lists : goal.returns-in_err-admit_lists
returns-in_err-admit_lists c =
    rw (handed_on c.from_residual.result _ c.from_residual.ensures.1) (all_refused c.in_err-admit_lists.ensures _ _ (some_number _))

pub returns-then-not-cells_lent : goal.returns-then-not-cells_lent
returns-then-not-cells_lent c =
    all_denied c.in_ok-admit_lists.ensures _ _ refl (refused c.cells_lent.result (ap not c.if-not-cells_lent.true) c.cells_lent.ensures) c.clear.ensures

pub make_lists-requires : goal.make_lists-requires
make_lists-requires c =
    lists_fit c.in_ok-admit_lists.ensures _ _ refl (granted c.cells_lent.result (ap not c.if-not-cells_lent.false) c.cells_lent.ensures)

pub returns : goal.returns
returns c =
    all_made c.in_ok-admit_lists.ensures _ _ refl (granted c.cells_lent.result (ap not c.if-not-cells_lent.false) c.cells_lent.ensures) c.make_lists.ensures
