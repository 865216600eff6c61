-- `cutting_writer::site::enter`: the ring's beginning, by its test.
use Rattle.cutting.specs.rings.Names.{on_hull}
use Rattle.cutting_writer.specs.site.laws.Walk.{none_made, one_asks, one_made, ray_there, ray_none}
use Rattle.cutting_writer.specs.stream.Stages.{left_of}
use Rattle.cutting.specs.whole.Whole.{bisector_of}
use borrow.Author.Rules.{rules}
use mathlib.Core.Bool.{true, false}
use mathlib.Core.Path.{◌≡◌, sym, ap, ◌∙◌}
use Rattle.cutting_writer.proofs.site.enter.Statement.{statement}
use Rattle.cutting_writer.proofs.site.enter.Tie as tie

abbrev Start : tie.After-on_hull → tie.Start
Start c = c.before.before.before.before.before.before.before

abbrev On-hull : tie.After-feed_left-arg-then-on_hull-1 → tie.After-on_hull
On-hull c = c.before.before.before.before.before.before

abbrev Then1 : tie.After-slice_known-then-on_hull-2-1 → tie.Then-on_hull
Then1 c = c.before.before.before.before.before.before.before.before.before.before

abbrev Wide2 : tie.After-feed_left-arg-then-on_hull-1 → tie.After-wide-then-on_hull
Wide2 c = c.before.before.before

feed_left-requires : tie.Need-feed_left-requires
feed_left-requires c κs =
    let a = (Start (On-hull c)).args in
    let h : on_hull a.halfedges.now a.t ≡ true = sym (ap (on_hull a.halfedges.now) (On-hull c).wide.ensures) ∙ sym (On-hull c).on_hull.ensures
    ∙ (Wide2 c).if-on_hull.true in
    let k = c.bisector.ensures ∙ ap (bisector_of a.triangles.now) (Wide2 c).wide-then-on_hull.ensures in
    one_asks a.b a.sites.now a.centers (left_of a.stage a.vertices.now a.indexes.now) _
    (ray_there a.sites.now a.triangles.now a.halfedges.now a.vertices.now a.t h) (λ i. record { corner = (Wide2 c).hull_end.ensures i; on = k i })
    (Start (On-hull c)).requires

returns : tie.Need-returns-then-on_hull
returns c =
    let a = (Start (Then1 c).before).args in
    let h : on_hull a.halfedges.now a.t ≡ true = sym (ap (on_hull a.halfedges.now) (Then1 c).wide.ensures) ∙ sym (Then1 c).on_hull.ensures
    ∙ (Then1 c).if-on_hull.true in
    let k = c.bisector.ensures ∙ ap (bisector_of a.triangles.now)
    (Wide2 c.before.before.before.before.before).wide-then-on_hull.ensures in
    one_made a.b a.sites.now a.centers (left_of a.stage a.vertices.now a.indexes.now) _
    (ray_there a.sites.now a.triangles.now a.halfedges.now a.vertices.now a.t h)
    (λ i. record { corner = (Wide2 c.before.before.before.before.before).hull_end.ensures i; on = k i }) c.feed_left.ensures

returns-2 : tie.Need-returns
returns-2 c =
    let a = (Start c.before).args in
    let h : on_hull a.halfedges.now a.t ≡ false = sym (ap (on_hull a.halfedges.now) c.wide.ensures) ∙ sym c.on_hull.ensures ∙ c.if-on_hull.false in
    none_made a.b a.sites.now a.centers (left_of a.stage a.vertices.now a.indexes.now)
    (ray_none a.sites.now a.triangles.now a.halfedges.now a.vertices.now a.t h)

pub enter_spec : {M : Type 1} → statement M
enter_spec =
    tie.close
    (tie.spec (λ c κs. search rules) (λ c κs. search rules) (λ c κs. search rules) (λ c κs. search rules) (λ c κs. search rules) feed_left-requires
    (λ c. search rules) (λ c. search rules) returns returns-2)
