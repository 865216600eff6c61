-- Refused by the rules up to 10, or what comes of the circumcenters decides.
use Rattle.std.proofs.Common.{refl, sym, arith, length-take, ne_eqb}
use Rattle.base.specs.refusal.laws.Number.{some_number, handed_on}
use Rattle.cutting_calls.specs.call.laws.Answer.{cut_early, table_fits, cut_asks, cut_done}
use Rattle.cutting_calls.proofs.call.cut.Goals as goal

pub returns-in_err-admit_cut : goal.returns-in_err-admit_cut
returns-in_err-admit_cut c =
    rw (handed_on c.from_residual.result _ c.from_residual.ensures.1)
    (cut_early c.args.given c.in_err-admit_cut.ensures c.ask_box-asked.ensures (some_number _))

pub slice_bounds-cut_mesh-end : goal.slice_bounds-cut_mesh-end
slice_bounds-cut_mesh-end c = table_fits c.args.given c.in_ok-admit_cut.ensures c.ask_box-asked.ensures refl

pub slice_bounds-cut_mesh-end-2 : goal.slice_bounds-cut_mesh-end-2
slice_bounds-cut_mesh-end-2 c = sym (simp length-take (omega (arith, table_fits c.args.given c.in_ok-admit_cut.ensures c.ask_box-asked.ensures refl)))

pub cut_mesh-done-requires : goal.cut_mesh-done-requires
cut_mesh-done-requires c = cut_asks c.args.given c.in_ok-admit_cut.ensures c.ask_box-asked.ensures refl c.requires

pub returns-in-Ok : goal.returns-in-Ok
returns-in-Ok c = cut_done c.args.given c.in_ok-admit_cut.ensures c.ask_box-asked.ensures refl (rw c.in-Ok.is at c.cut_mesh-done.ensures) refl

pub returns-in-Err : goal.returns-in-Err
returns-in-Err c =
    cut_done c.args.given c.in_ok-admit_cut.ensures c.ask_box-asked.ensures refl (rw c.in-Err.is at c.cut_mesh-done.ensures)
    (rw (ne_eqb _ 0 (some_number c.in-Err.refusal)) c.clear.ensures)
