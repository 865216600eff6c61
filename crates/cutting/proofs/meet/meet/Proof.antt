-- `cutting::meet::meet`: each arm is the definition at its carrier.
use borrow.Author.Rules.{rules}
use Rattle.cutting.specs.meet.laws.Calls.{meet_bisector, meet_along, meet_infinity}
use Rattle.cutting.proofs.meet.meet.Statement.{statement}
use Rattle.cutting.proofs.meet.meet.Tie as tie

returns : tie.Need-returns-in-Bisector
returns c =
    let k = c in
    let a = k.args in
    meet_bisector a.b a.sites.now a.s a.p a.q k.in-Bisector.is c.cross.ensures c.on_side.ensures c.near.ensures

returns-2 : tie.Need-returns-in-Along
returns-2 c =
    let k = c in
    let a = k.args in
    meet_along a.b a.sites.now a.s a.p a.q k.in-Along.is c.coordinate.ensures c.on_side-in-Along.ensures c.near-in-Along.ensures

returns-3 : tie.Need-returns-in-Infinity
returns-3 c =
    let k = c in
    let a = k.args in
    meet_infinity a.b a.sites.now a.s a.p a.q k.in-Infinity.is c.upward.ensures c.line_meet.ensures

pub meet_spec : {M : Type 1} → statement M
meet_spec =
    tie.close
    (tie.spec (λ c. search rules) (λ c κs. tt) (λ c κs. tt) (λ c κs. tt) (λ c. search rules) (λ c κs. tt) (λ c κs. tt) (λ c κs. tt) (λ c. search rules)
    (λ c κs. tt) (λ c κs. tt) returns returns-2 returns-3)
