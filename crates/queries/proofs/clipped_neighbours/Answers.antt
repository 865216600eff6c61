-- The mesh is admitted, the offsets are sound, and the clipped neighbours are handed out; or the number is the refusal's, and after 16 the work slice is cleared.
use Rattle.std.proofs.Common.{refl, ap}
use Rattle.std.specs.Prelude.{not}
use Rattle.base.specs.common.laws.Decide.{granted, refused}
use Rattle.base.specs.refusal.laws.Number.{some_number, handed_on}
use Rattle.queries.specs.laws.Lists.{served, clipped_refused, clipped_denied, clipped_given, clipped_ready, clipped_site, clipped_fills, clipped_few}
use Rattle.queries.proofs.clipped_neighbours.Goals as goal

pub returns-in_err-admit_list : goal.returns-in_err-admit_list
returns-in_err-admit_list c =
    rw (handed_on c.from_residual.result _ c.from_residual.ensures.1)
    (clipped_refused c.in_err-admit_list.ensures c.ask_site-asked.ensures _ _ _ (some_number _) refl)

pub returns-then-not-cells_ok : goal.returns-then-not-cells_ok
returns-then-not-cells_ok c =
    clipped_denied c.in_ok-admit_list.ensures c.ask_site-asked.ensures _ _ refl _ _
    (refused c.cells_ok.result (ap not c.if-not-cells_ok.true) c.cells_ok.ensures) c.clear.ensures refl

pub clipped_neighbours-requires : goal.clipped_neighbours-requires
clipped_neighbours-requires c =
    let u = served c.in_ok-admit_list.ensures refl c.ask_site-asked.ensures tt in
    let ok = granted c.cells_ok.result (ap not c.if-not-cells_ok.false) c.cells_ok.ensures in
    (clipped_ready u ok, clipped_site u ok)

pub given-requires : goal.given-requires
given-requires c =
    let u = served c.in_ok-admit_list.ensures refl c.ask_site-asked.ensures tt in
    let ok = granted c.cells_ok.result (ap not c.if-not-cells_ok.false) c.cells_ok.ensures in
    clipped_few u ok _ (rw c.wide.ensures) c.clipped_neighbours.ensures

pub returns : goal.returns
returns c =
    let q = c.ask_site-asked.ensures in
    let ok = granted c.cells_ok.result (ap not c.if-not-cells_ok.false) c.cells_ok.ensures in
    rw (c.given.ensures.0, c.given.ensures.1)
    (clipped_given c.in_ok-admit_list.ensures q _ _ refl _ _ _ _ ok
    (clipped_fills (served c.in_ok-admit_list.ensures refl q tt) ok _ (rw c.wide.ensures) c.clipped_neighbours.ensures) refl)
