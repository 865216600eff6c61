-- `mend::writer::put_lists` meets its contract: the triangles, the hull and the end, one after the other.
use mathlib.Core.List.{[], ◌∷◌, ◌++◌}
use Prim.Native.Nat.{◌/◌}
use lib.ListN.{length}
use Rattle.octets.specs.Bytes.{each}
use Rattle.octets.specs.laws.Wrote.{fits_left, fits_then, wrote_then}
use Rattle.form.specs.Form.{hull_bytes}
use Rattle.mend.specs.writer.Written.{triangle_records, lists}
use Rattle.mend.proofs.writer.put_lists.Goals as goal

pub put_triangles-a-requires : goal.put_triangles-a-requires
unfolding lists
put_triangles-a-requires c =
    let a = c.args in
    let t = triangle_records a.triangles.now a.halfedges.now 0 (length a.triangles.now / 3) in
    let h = each hull_bytes a.hull.now in
    (c.requires.0, fits_left a.out.now a.at t h (fits_left a.out.now a.at (t ++ h) (5 ∷ []) c.requires.1))

pub put_hull-b-requires : goal.put_hull-b-requires
unfolding lists
put_hull-b-requires c =
    let a = c.before.before.before.before.args in
    let t = triangle_records a.triangles.now a.halfedges.now 0 (length a.triangles.now / 3) in
    let h = each hull_bytes a.hull.now in
    fits_then t h c.put_triangles-a.ensures (fits_left a.out.now a.at (t ++ h) (5 ∷ []) c.before.before.before.before.requires.1)

pub put-requires : goal.put-requires
unfolding lists
put-requires c =
    let a = c.before.before.before.before.before.before.before.before.before.before.args in
    let t = triangle_records a.triangles.now a.halfedges.now 0 (length a.triangles.now / 3) in
    let h = each hull_bytes a.hull.now in
    fits_then (t ++ h) (5 ∷ []) (wrote_then c.put_triangles-a.ensures c.put_hull-b.ensures) c.before.before.before.before.before.before.before.before.before.before.requires.1

pub returns : goal.returns
unfolding lists
returns c =
    wrote_then (wrote_then c.put_triangles-a.ensures c.put_hull-b.ensures) c.put.ensures
