-- `certifying::call::judge_twins` meets its contract.
use Rattle.certifying.specs.call.laws.Stages.{twins_named, twins_none}
use Rattle.certifying.proofs.call.judge_twins.Goals as goal

pub returns-then-s-sites : goal.returns-then-s-sites
returns-then-s-sites c = (twins_named c.args.sites.now c.first_site_twin-s.ensures.0 c.if-s-sites.true c.name_twin.ensures, c.first_site_twin-s.ensures.1)

pub returns : goal.returns
returns c = (twins_none c.args.sites.now c.first_site_twin-s.ensures.0 c.if-s-sites.false, c.first_site_twin-s.ensures.1)
