-- `cutting_writer::short::lay_far`: the ring's end, by its test.
use Rattle.std.proofs.Common.{◌≡◌, true, false, ◌∙◌, sym, ap, arith}
use Rattle.cutting.specs.border.Border.{hull_end}
use Rattle.cutting.specs.declared.corner.Carrier.TheVariants.{Infinity}
use Rattle.cutting.specs.rings.Names.{on_hull}
use Rattle.cutting_writer.specs.short.laws.Laying.{laid_none, laid_one}
use Rattle.cutting_writer.specs.site.laws.Walk.{far_there, far_none}
use Rattle.mesh.specs.Mesh.{next_of}
use Rattle.mesh.specs.laws.Next.{next_sum}
use Rattle.cutting_writer.proofs.short.lay_far.Goals as goal

pub overflow_cast-o : goal.overflow_cast-o
overflow_cast-o c = omega (arith, c.next_halfedge-o.ensures, c.wide.ensures, c.requires.0, next_sum c.wide.result)

pub returns-then-on_hull : goal.returns-then-on_hull
returns-then-on_hull c =
    let a = c.args in
    let o : c.next_halfedge-o.result ≡ next_of a.e = c.next_halfedge-o.ensures ∙ ap next_of c.wide.ensures in
    let h : on_hull a.halfedges.now (next_of a.e) ≡ true = sym (ap (on_hull a.halfedges.now) o) ∙ sym c.on_hull.ensures ∙ c.if-on_hull.true in
    let p = c.hull_end.ensures ∙ ap (hull_end a.sites.now a.triangles.now a.centers.now) o in
    laid_one a.k (far_there a.sites.now a.triangles.now a.halfedges.now a.centers.now a.e h) (λ i. record { corner = p i; on = Infinity }) c.lay.ensures

pub returns : goal.returns
returns c =
    let a = c.args in
    let o : c.next_halfedge-o.result ≡ next_of a.e = c.next_halfedge-o.ensures ∙ ap next_of c.wide.ensures in
    let h : on_hull a.halfedges.now (next_of a.e) ≡ false = sym (ap (on_hull a.halfedges.now) o) ∙ sym c.on_hull.ensures ∙ c.if-on_hull.false in
    laid_none a.k (far_none a.sites.now a.triangles.now a.halfedges.now a.centers.now a.e h)
