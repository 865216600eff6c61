-- `cutting_writer::site::out_spot`: the circumcenter, and the bisector of the next half-edge.
use Prim.Native.Nat.{◌/◌}
use Rattle.cutting.specs.corner.Corner.{circle_center}
use Rattle.cutting.specs.whole.Whole.{bisector_of}
use Rattle.mesh.specs.Mesh.{next_of}
use Rattle.mesh.specs.laws.Next.{next_sum}
use Rattle.plane.specs.declared.points.Point.{Point}
use borrow.Author.Rules.{rules}
use mathlib.Core.Path.{◌∙◌, ap}
use native.Mathlib.Omega.{arith}
use Rattle.cutting_writer.proofs.site.out_spot.Statement.{statement}
use Rattle.cutting_writer.proofs.site.out_spot.Tie as tie

bisector-requires : tie.Need-bisector-requires
bisector-requires c κs = omega (arith, c.next_halfedge.ensures, c.wide.ensures, c.requires, next_sum c.wide.result)

returns : tie.Need-returns
returns c =
    let a = c.args in
    let p = c.circle_center.ensures ∙ ap (λ (z : Point). circle_center z (a.e / 3)) c.site_at.ensures in
    let k = c.bisector.ensures ∙ ap (bisector_of a.triangles.now) (c.next_halfedge.ensures ∙ ap next_of c.wide.ensures) in
    λ i. record { corner = p i; on = k i }

pub out_spot_spec : {M : Type 1} → statement M
out_spot_spec =
    tie.close
    (tie.spec (λ c κs. search rules) (λ c κs. search rules) (λ c κs. search rules) (λ c κs. search rules) bisector-requires returns)
