-- A mark that is no half-edge is from no site; of another the site where it starts tells.
use Rattle.mending.specs.pairs.laws.Marking.{from_says}
use borrow.Author.Rules.{rules}
use Rattle.mending.proofs.pairs.from_site.Statement.{statement}
use Rattle.mending.proofs.pairs.from_site.Tie as tie

returns-2 : tie.Need-returns
returns-2 c =
    let at_wide = c in
    let at_start = at_wide in
    from_says at_start.args.triangles.now at_start.args.a at_start.args.m at_wide.wide-e.result c.wide-s.result at_wide.wide-e.ensures c.if-triangles-e.false c.wide-s.ensures

pub from_site_spec : {M : Type 1} → statement M
from_site_spec =
    tie.close
    (tie.spec (λ c κs. search rules) (λ c. search rules) (λ c. search rules) (λ c. search rules)
    (λ c κs. search rules) returns-2)
