-- `cutting_writer::short::lay_ray`: the ring's beginning, by its test.
use Rattle.std.proofs.Common.{◌≡◌, true, false, ◌∙◌, sym, ap}
use Rattle.cutting.specs.rings.Names.{on_hull}
use Rattle.cutting.specs.whole.Whole.{bisector_of}
use Rattle.cutting_writer.specs.short.laws.Laying.{laid_none, laid_one}
use Rattle.cutting_writer.specs.site.laws.Walk.{ray_there, ray_none}
use Rattle.cutting_writer.proofs.short.lay_ray.Goals as goal

pub returns-then-on_hull : goal.returns-then-on_hull
returns-then-on_hull c =
    let a = c.args in
    let h : on_hull a.halfedges.now a.t ≡ true = sym (ap (on_hull a.halfedges.now) c.wide.ensures) ∙ sym c.on_hull.ensures ∙ c.if-on_hull.true in
    let k = c.bisector.ensures ∙ ap (bisector_of a.triangles.now) c.wide-then-on_hull.ensures in
    laid_one 0 (ray_there a.sites.now a.triangles.now a.halfedges.now a.centers.now a.t h) (λ i. record { corner = c.hull_end.ensures i; on = k i }) c.lay.ensures

pub returns : goal.returns
returns c =
    let a = c.args in
    let h : on_hull a.halfedges.now a.t ≡ false = sym (ap (on_hull a.halfedges.now) c.wide.ensures) ∙ sym c.on_hull.ensures ∙ c.if-on_hull.false in
    laid_none 0 (ray_none a.sites.now a.triangles.now a.halfedges.now a.centers.now a.t h)
