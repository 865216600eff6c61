-- `plane::lines::intersect_line`: slope and offset are the definition's, and so is what is answered by the tests, in their order.
use Rattle.plane.specs.lines.laws.Met.{line_sides, line_upright, line_levels}
use Rattle.plane.proofs.lines.intersect_line.Statement.{statement}
use Rattle.plane.proofs.lines.intersect_line.Tie as tie

sides : tie.Need-returns-then-f-g
sides c = line_sides _ _ _ c.before.before.on_side-f.ensures c.before.on_side-g.ensures c.if-f-g.true

parallel : tie.Need-returns-then-upright
parallel c =
    let u = c.before.before in
    let d = u.before in
    line_upright _ _ _ d.before.before.on_side-f.ensures d.before.on_side-g.ensures d.if-f-g.false u.upright.ensures c.before.if-upright.true c.upright_hit.ensures

other : tie.Need-returns
other c =
    let e = c.before.before.before in
    let u = e.before in
    let d = u.before in
    line_levels _ _ _ d.before.before.on_side-f.ensures d.before.on_side-g.ensures d.if-f-g.false u.upright.ensures e.if-upright.false c.levels.ensures

pub intersect_line_spec : {M : Type 1} → statement M
intersect_line_spec = tie.close (tie.spec (λ c κs. tt) (λ c κs. tt) sides (λ c κs. tt) (λ c κs. tt) parallel (λ c κs. tt) other)
