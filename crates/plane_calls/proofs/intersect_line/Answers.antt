-- `plane_calls::intersect_line` meets its contract: the refusal, or what is met as numbers.
use Rattle.std.proofs.lemmas.Result.{err_from_is_err_and}
use Rattle.plane_calls.specs.laws.Plane.{line_meets, line_refused}
use Rattle.plane_calls.proofs.intersect_line.Goals as goal

pub returns-in_err-meet_line : goal.returns-in_err-meet_line
returns-in_err-meet_line c =
    let p = err_from_is_err_and c.from_residual.result c.from_residual.ensures.1 in
    rw (p.1, p.2) (line_refused c.args.given c.args.p c.args.q c.in_err-meet_line.ensures)

pub returns : goal.returns
returns c = line_meets c.args.given c.args.p c.args.q c.in_ok-meet_line.ensures c.into.ensures
