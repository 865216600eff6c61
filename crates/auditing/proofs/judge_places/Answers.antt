-- `auditing::judge_places` meets its contract.
use Rattle.auditing.specs.laws.Stages.{places_named, places_none}
use Rattle.auditing.proofs.judge_places.Goals as goal

pub returns-then-s-sites : goal.returns-then-s-sites
returns-then-s-sites c = places_named c.args.sites.now c.first_site_twin-s.ensures c.if-s-sites.true c.name_twin.ensures

pub returns : goal.returns
returns c = places_none c.args.sites.now c.first_site_twin-s.ensures c.if-s-sites.false
