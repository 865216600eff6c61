-- `plane::centers::circumcenter` meets its contract: each answer by the tests that lead to it.
use Rattle.std.proofs.Common.{sym}
use Rattle.plane.specs.centers.laws.Calls.{site_refused, center_refused, center_answered}
use Rattle.plane.proofs.centers.circumcenter.Goals as goal

pub returns-then-not-site_ok : goal.returns-then-not-site_ok
returns-then-not-site_ok c = let a = c.args in sym (site_refused a.a a.b a.c c.site_ok.ensures c.site_ok-2.ensures c.site_ok-3.ensures c.if-not-site_ok.true)

pub returns-then-not-center_ok : goal.returns-then-not-center_ok
returns-then-not-center_ok c =
    let a = c.args in
    sym (center_refused a.a a.b a.c c.site_ok.ensures c.site_ok-2.ensures c.site_ok-3.ensures c.if-not-site_ok.false c.circumcenter_of-p.ensures c.center_ok.ensures
    c.if-not-center_ok.true)

pub returns : goal.returns
returns c =
    let a = c.args in
    sym (center_answered a.a a.b a.c c.site_ok.ensures c.site_ok-2.ensures c.site_ok-3.ensures c.if-not-site_ok.false c.circumcenter_of-p.ensures c.center_ok.ensures
    c.if-not-center_ok.false)
