-- `wkb::multipoint_writer::put_site` meets its contract: the point of the two patterns.
use Rattle.wkb.specs.multipoint_writer.laws.Points.{site_wrote}
use borrow.Author.Rules.{rules}
use Rattle.wkb.proofs.multipoint_writer.put_site.Statement.{statement}
use Rattle.wkb.proofs.multipoint_writer.put_site.Tie as tie

returns : tie.Need-returns
returns c =
    let at-pattern2 = c in
    let a = at-pattern2.args in
    site_wrote a.sites.now a.i at-pattern2.pattern-x.ensures at-pattern2.pattern-y.ensures c.put_point.ensures

pub put_site_spec : {M : Type 1} → statement M
put_site_spec =
    tie.close
    (tie.spec (λ c. search rules) (λ c. search rules) (λ c. search rules) (λ c κs. search rules) (λ c. search rules)
    (λ c. search rules) (λ c. search rules) (λ c. search rules) (λ c κs. search rules) (λ c κs. search rules)
    (λ c. search rules) returns)
