-- `cutting_writer::site::cut_by_sides`: the ring in three parts, and the sides closed.
use Rattle.cutting.specs.pen.Pen.{page}
use Rattle.cutting_writer.specs.site.laws.Ringed.{ring_none, ring_begun, ring_leaves, ring_closes, ring_made}
use Rattle.cutting_writer.specs.stream.Stages.{left_of, opened}
use borrow.Author.Rules.{rules}
use mathlib.Core.Path.{refl, ◌∙◌}
use native.Mathlib.Omega.{arith}
use Rattle.cutting_writer.proofs.site.cut_by_sides.Statement.{statement}
use Rattle.cutting_writer.proofs.site.cut_by_sides.Tie as tie

abbrev Start : tie.Else-halfedges-wide → tie.Start
Start c = c.before.before.before.before.before.before.before

abbrev Else1 : tie.After-vertices-1 → tie.Else-halfedges-wide
Else1 c = c.before.before.before.before

abbrev Walked-in : tie.After-leave-arg-2-1 → tie.After-walk_in-w
Walked-in c = c.before.before.before.before.before.before.before

abbrev Vertices : tie.After-close-arg-2-1 → tie.After-vertices-1
Vertices c = c.before.before.before.before.before.before.before.before.before.before.before.before.before

abbrev Closed-arg2 : tie.After-slice_known-8-1 → tie.After-close-arg-2-1
Closed-arg2 c = c.before.before.before.before.before

returns : tie.Need-returns-then-halfedges-wide
returns c = let a = c.args in ring_none a.b a.sites.now a.triangles.now a.halfedges.now
    a.vertices.now a.centers a.t (page a.pen a.vertices.now a.indexes.now) (omega (arith, c.wide.ensures, c.if-halfedges-wide.true))

walk_in-requires : tie.Need-walk_in-w-requires
walk_in-requires c κs =
    let start = Start c.before.before in
    let a = start.args in
    ring_begun a.b a.sites.now a.triangles.now a.halfedges.now a.centers a.t (left_of (opened a.pen) a.vertices.now a.indexes.now)
    (record { left = refl; top = refl; right = refl; bottom = refl }) start.requires.0 start.requires.1
    (omega (arith, c.wide.ensures, c.if-halfedges-wide.false)) start.requires.2

leave-requires : tie.Need-leave-u-requires
leave-requires c κs =
    let start = Start (Walked-in c).before.before.before in
    let a = start.args in
    let w = (Walked-in c).walk_in-w.ensures in
    ring_leaves a.b a.sites.now a.triangles.now a.halfedges.now a.centers a.t (left_of (opened a.pen) a.vertices.now a.indexes.now)
    (record { left = refl; top = refl; right = refl; bottom = refl }) start.requires.0 start.requires.1
    (omega (arith, (Walked-in c).wide.ensures, (Walked-in c).if-halfedges-wide.false)) start.requires.2 _ w.0 _ w.1

close-requires : tie.Need-close-requires
close-requires c κs =
    let start = Start (Else1 (Vertices c)) in
    let a = start.args in
    let w = (Vertices c).walk_in-w.ensures in
    ring_closes a.b a.sites.now a.triangles.now a.halfedges.now a.centers a.t (left_of (opened a.pen) a.vertices.now a.indexes.now)
    (record { left = refl; top = refl; right = refl; bottom = refl }) start.requires.0 start.requires.1
    (omega (arith, (Else1 (Vertices c)).wide.ensures, (Else1 (Vertices c)).if-halfedges-wide.false)) start.requires.2 _ w.0 _ w.1 _
    c.leave-u.ensures

same_length : tie.Need-shape_of-vertices
same_length c = c.vertices-3-1.given ∙ (Closed-arg2 c).vertices-2-1.given ∙ c.vertices-1.given

returns-2 : tie.Need-returns
returns-2 c =
    let start = Start (Else1 (Vertices (Closed-arg2 c))) in
    let a = start.args in
    let w = (Vertices (Closed-arg2 c)).walk_in-w.ensures in
    ring_made a.b a.sites.now a.triangles.now a.halfedges.now a.centers a.t (left_of (opened a.pen) a.vertices.now a.indexes.now)
    (record { left = refl; top = refl; right = refl; bottom = refl }) start.requires.0 start.requires.1
    (omega (arith, (Else1 (Vertices (Closed-arg2 c))).wide.ensures, (Else1 (Vertices (Closed-arg2 c))).if-halfedges-wide.false)) start.requires.2 _ w.0 _ w.1 _
    (Closed-arg2 c).leave-u.ensures _ c.close.ensures

pub cut_by_sides_spec : {M : Type 1} → statement M
cut_by_sides_spec = tie.close (tie.spec (λ c κs. search rules) returns walk_in-requires leave-requires close-requires same_length (λ c. search rules) returns-2)
