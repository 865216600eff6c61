-- `plane::rays::meet_line` meets its contract: the refusal, or what is met.
use Rattle.std.proofs.Common.{sym}
use Rattle.std.proofs.lemmas.Result.{err_from_is_err_and}
use Rattle.plane.specs.rays.laws.Calls.{line_met, line_refused}
use Rattle.plane.proofs.rays.meet_line.Goals as goal

pub returns-in_err-tried : goal.returns-in_err-tried
returns-in_err-tried c =
    let p = err_from_is_err_and c.from_residual.result c.from_residual.ensures.1 in
    rw (p.1, p.2) (sym (line_refused c.args.given _ _ c.site_ok.ensures c.site_ok-2.ensures c.in_err-tried.ensures))

pub returns : goal.returns
returns c = sym (line_met c.args.given _ _ c.site_ok.ensures c.site_ok-2.ensures c.in_ok-tried.ensures c.intersect_line.ensures)
