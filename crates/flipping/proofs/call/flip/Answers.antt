-- Refused by 1 or 2, refused by 7 to 10 or 23, or made: the three laws of the promise.
use Rattle.std.proofs.Common.{refl}
use Rattle.base.specs.refusal.laws.Number.{some_number, handed_number}
use Rattle.flipping.specs.call.Flips.{flip_lists}
use Rattle.flipping.specs.call.laws.Outcomes.{flips_early, flips_late, can_change, flips_made}
use Rattle.flipping.proofs.call.flip.Goals as goal

pub returns-in_err-admit : goal.returns-in_err-admit
returns-in_err-admit c =
    rw (handed_number c.from_residual.result _ c.from_residual.ensures.1)
    (flips_early _ _ _ (flip_lists c.args.triangles.now c.args.halfedges.now c.args.table.now c.args.work.now) _ c.in_err-admit.ensures (some_number _))

pub returns-in_err-judge : goal.returns-in_err-judge
returns-in_err-judge c =
    rw (handed_number c.from_residual-in_err-judge.result _ c.from_residual-in_err-judge.ensures.1)
    (flips_late _ _ _ (flip_lists c.args.triangles.now c.args.halfedges.now c.args.table.now c.args.work.now) _ c.in_ok-admit.ensures refl _ _
    (rw (c.wide.ensures, c.wide-a.ensures) at c.in_err-judge.ensures) (some_number _))

pub change-requires : goal.change-requires
change-requires c =
    rw c.wide-a.ensures
    (can_change c.args.site_count c.args.hull.now _ (flip_lists c.args.triangles.now c.args.halfedges.now c.args.table.now c.args.work.now) _ c.in_ok-admit.ensures refl _ _
    (rw (c.wide.ensures, c.wide-a.ensures) at c.in_ok-judge.ensures) refl)

pub returns : goal.returns
returns c =
    flips_made _ _ _ (flip_lists c.args.triangles.now c.args.halfedges.now c.args.table.now c.args.work.now) _ c.in_ok-admit.ensures refl _ _
    (rw (c.wide.ensures, c.wide-a.ensures) at c.in_ok-judge.ensures) refl _ (rw c.wide-a.ensures at c.change.ensures)
