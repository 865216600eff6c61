-- `cutting_writer::site::leave`: the ring's end, by its test.
use Rattle.cutting.specs.border.Border.{hull_end}
use Rattle.cutting.specs.declared.corner.Carrier.TheVariants.{Infinity}
use Rattle.cutting.specs.rings.Names.{on_hull}
use Rattle.cutting_writer.specs.site.laws.Walk.{none_made, one_asks, one_made, far_there, far_none}
use Rattle.cutting_writer.specs.stream.Stages.{left_of}
use Rattle.mesh.specs.Mesh.{next_of}
use Rattle.mesh.specs.laws.Next.{next_sum}
use borrow.Author.Rules.{rules}
use mathlib.Core.Bool.{true, false}
use mathlib.Core.Path.{sym, ap, ◌∙◌, ◌≡◌}
use native.Mathlib.Omega.{arith}
use Rattle.cutting_writer.proofs.site.leave.Statement.{statement}
use Rattle.cutting_writer.proofs.site.leave.Tie as tie

abbrev Start : tie.After-on_hull → tie.Start
Start c = c.before.before.before.before.before.before.before.before

abbrev On-hull : tie.After-feed_left-arg-then-on_hull-1 → tie.After-on_hull
On-hull c = c.before.before.before.before

abbrev Then1 : tie.After-slice_known-then-on_hull-2-1 → tie.Then-on_hull
Then1 c = c.before.before.before.before.before.before.before.before

next_halfedge-requires : tie.Need-next_halfedge-o-requires
next_halfedge-requires c κs = omega (arith, c.wide.ensures)

cast-hull_end : tie.Need-overflow_cast-o
cast-hull_end c = omega (
  arith,
  c.next_halfedge-o.ensures,
  c.wide.ensures,
  (Start c.before).requires.0,
  next_sum c.wide.result,
)

feed_left-requires : tie.Need-feed_left-requires
feed_left-requires c κs =
    let a = (Start (On-hull c)).args in
    let o : (On-hull c).next_halfedge-o.result ≡ next_of a.e = (On-hull c).next_halfedge-o.ensures ∙ ap next_of (On-hull c).wide.ensures in
    let h : on_hull a.halfedges.now (next_of a.e) ≡ true = sym (ap (on_hull a.halfedges.now) o) ∙ sym (On-hull c).on_hull.ensures
    ∙ c.if-on_hull.true in
    let p = c.hull_end.ensures ∙ ap (hull_end a.sites.now a.triangles.now a.vertices.now) o in
    one_asks a.b a.sites.now a.centers (left_of a.stage a.vertices.now a.indexes.now) _
    (far_there a.sites.now a.triangles.now a.halfedges.now a.vertices.now a.e h) (λ i. record { corner = p i; on = Infinity }) (Start (On-hull c)).requires.1

returns : tie.Need-returns-then-on_hull
returns c =
    let a = (Start (Then1 c).before).args in
    let o : (Then1 c).next_halfedge-o.result ≡ next_of a.e = (Then1 c).next_halfedge-o.ensures ∙ ap next_of (Then1 c).wide.ensures
    in
    let h : on_hull a.halfedges.now (next_of a.e) ≡ true = sym (ap (on_hull a.halfedges.now) o) ∙ sym (Then1 c).on_hull.ensures ∙ (Then1 c).if-on_hull.true in
    let p = c.hull_end.ensures ∙ ap (hull_end a.sites.now a.triangles.now a.vertices.now) o in
    one_made a.b a.sites.now a.centers (left_of a.stage a.vertices.now a.indexes.now) _
    (far_there a.sites.now a.triangles.now a.halfedges.now a.vertices.now a.e h) (λ i. record { corner = p i; on = Infinity })
    c.feed_left.ensures

returns-2 : tie.Need-returns
returns-2 c =
    let a = (Start c.before).args in
    let o : c.next_halfedge-o.result ≡ next_of a.e = c.next_halfedge-o.ensures ∙ ap next_of c.wide.ensures in
    let h : on_hull a.halfedges.now (next_of a.e) ≡ false = sym (ap (on_hull a.halfedges.now) o) ∙ sym c.on_hull.ensures ∙ c.if-on_hull.false in
    none_made a.b a.sites.now a.centers (left_of a.stage a.vertices.now a.indexes.now)
    (far_none a.sites.now a.triangles.now a.halfedges.now a.vertices.now a.e h)

pub leave_spec : {M : Type 1} → statement M
leave_spec =
    tie.close
    (tie.spec (λ c κs. search rules) next_halfedge-requires (λ c κs. search rules) cast-hull_end (λ c κs. search rules) feed_left-requires (λ c. search rules)
    (λ c. search rules) returns returns-2)
