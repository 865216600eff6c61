-- `vertices::vertex` meets its contract: place i of the list of points is the point at place i of the numbers.
use mathlib.Core.Path.{sym, ◌∙◌}
use native.Mathlib.Omega.{arith}
use lib.Ieee.{nan}
use Rattle.plane.specs.points.Plane.{at}
use Rattle.vertices.specs.laws.Points.{get_d_points}
use borrow.Author.Rules.{rules}
use Rattle.vertices.proofs.vertex.Statement.{statement}
use Rattle.vertices.proofs.vertex.Tie as tie

returns : tie.Need-returns
returns c =
    let a = c.args in
    c.point_at.ensures ∙ sym (get_d_points a.vertices.now a.count a.i (at nan nan) (omega arith))

pub vertex_spec : {M : Type 1} → statement M
vertex_spec = tie.close (tie.spec (λ c κs. search rules) returns)
