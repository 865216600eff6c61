-- `auditing::corners::is_outside` meets its contract: the entry as a place.
use Rattle.auditing.specs.corners.laws.Corners.{outside_is}
use borrow.Author.Rules.{rules}
use Rattle.auditing.proofs.corners.is_outside.Statement.{statement}
use Rattle.auditing.proofs.corners.is_outside.Tie as tie

returns : tie.Need-returns
returns c =
    let s = c in
    outside_is s.args.bounds s.args.vertices.now s.args.entry c.wide.ensures c.point_at.ensures c.is_inside.ensures

pub is_outside_spec : {M : Type 1} → statement M
is_outside_spec = tie.close (tie.spec (λ c κs. search rules) (λ c κs. search rules) (λ c κs. search rules) returns)
