-- Theorem: what the calls for all gauges at once leave is what the single calls write with room for all. Of any outcome of a single call on the same mesh whose work slice has an entry for
-- each site: it answers 0 and ends, and its list is the site's part; and the last entry of the path that it writes is the point's end. The polygons of all cells are those of one.
use Rattle.std.specs.Prelude.{◌≡◌, true, false, List, ℕ, suc, ◌+◌, ◌-◌, ◌/◌, ◌≤◌, ◌<◌, Float, length, get_or, take, drop}
use Rattle.std.proofs.Common.{sym, ap, ◌∙◌, arith, get_or-take}
use Rattle.plane.specs.points.Flat.{point_at}
use Rattle.mesh.specs.Accepted.{Mesh, table_of, site_count}
use Rattle.walks.specs.paths.Path.{whole_path}
use Rattle.cell_memory.specs.layout.Regions.{joined}
use Rattle.queries.specs.all_neighbours.Lists.{nothing_lent, all_neighbours}
use Rattle.queries.specs.bulk_neighbours.PartsTheorem.{part_of, plain_is, clipped_is, all_given, part_is}
use Rattle.queries.specs.bulk_neighbours.RoomTheorem.{room_suffices}
use Rattle.queries.specs.bulk_ends.EndsTheorem.{begin_of, path_some, path_few, ends_mesh, ends_kept, begin_below, end_is}
use Rattle.all_wkb.specs.Promise.{image_at}
use Rattle.all_wkb.specs.PartsTheorem as all-images
use Rattle.voronoi.specs.Maps.{CellWkb, AllWkb}
use Rattle.voronoi.specs.Walks.{Neighbours, ClippedNeighbours, Path}
use Rattle.voronoi.specs.Bulk.{AllNeighbours, EndsOfPaths}
use Rattle.voronoi.specs.laws.Answering.{site_answers, cells_answers, path_answers}
use Rattle.voronoi.specs.laws.Written.{fitting}

-- a single call answered 0 and wrote a list of k entries to its end, x' being its output slice then
pub record WroteAll (x' part : List ℕ) (k e r : ℕ) : Type 0 where
  pub admitted : r ≡ 0
  pub ended : e ≡ 1
  pub list : take k x' ≡ part

module _ (m : Mesh) (off ix : List ℕ) {w w' st st' o o' : List ℕ} (a : AllNeighbours m off ix w w' st st' o o' 0) (s : ℕ) (h : s < site_count m.sites) where
  -- with no cells lent: voronoi_neighbours
  pub plain_single : nothing_lent (length off) (length ix) ≡ true → {v v' x x' : List ℕ} {k e r : ℕ} → site_count m.sites ≤ length v → length (part_of st' o' s) ≤ length x
      → Neighbours m s v v' x x' k e r → WroteAll x' (part_of st' o' s) k e r
  plain_single none {v} {x' = x'} {k} {e} {r} room fits b =
      let z : r ≡ 0 = (site_answers m v s b.number).1 (record { mesh = (all_given a).0; room = room; arguments = h }) in
      let part = part_is a s h ∙ plain_is m.triangles m.halfedges (table_of m) off ix s none in
      let f = fitting (rw z at b) (omega (arith, ap length part)) in
      record { admitted = z; ended = f.2; list = f.0 ∙ sym part }

  -- with cells lent: voronoi_clipped_neighbours
  pub clipped_single : nothing_lent (length off) (length ix) ≡ false → {v v' x x' : List ℕ} {k e r : ℕ} → site_count m.sites ≤ length v → length (part_of st' o' s) ≤ length x
      → ClippedNeighbours m off ix s v v' x x' k e r → WroteAll x' (part_of st' o' s) k e r
  clipped_single some {v} {x' = x'} {k} {e} {r} room fits b =
      let z : r ≡ 0 = (cells_answers m v off ix s b.number).1 (record { mesh = (all_given a).0; room = room; arguments = (h, (all_given a).1.cells some) }) in
      let part = part_is a s h ∙ clipped_is m.triangles m.halfedges (table_of m) off ix s some in
      let f = fitting (rw z at b) (omega (arith, ap length part)) in
      record { admitted = z; ended = f.2; list = f.0 ∙ sym part }

-- the room always suffices: no list is cut
pub all_fits : (m : Mesh) (off ix : List ℕ) {w w' st st' o o' : List ℕ} → AllNeighbours m off ix w w' st st' o o' 0
    → length (joined (all_neighbours m off ix)) ≤ length m.triangles + length m.hull
all_fits m off ix a = room_suffices (all_given a).0 off ix

-- the last entry of the path that voronoi_path writes to point i, from where the last one ended, is the end
pub end_single : (m : Mesh) (s : ℕ) (points : List Float) {w w' o o' : List ℕ} → EndsOfPaths m s points w w' o o' 0 → (i : ℕ) → i < length points / 2
    → {v v' x x' : List ℕ} {k e r : ℕ} → site_count m.sites ≤ length v → site_count m.sites ≤ length x → Path m (begin_of s o' i) (point_at points i) v v' x x' k e r
    → (r ≡ 0) × (e ≡ 1) × (get_or o' i 0 ≡ get_or x' (k - 1) 0)
end_single m s points {o' = o'} a i h {v} {x' = x'} {k} {e} {r} room fits b =
    let p = point_at points i in
    let begin = begin_of s o' i in
    let mesh = ends_mesh a in
    let to = ends_kept a i h in
    let below = begin_below a i h in
    let z : r ≡ 0 = (path_answers m v begin p b.number).1 (record { mesh = mesh; room = room; arguments = (below, to) }) in
    let path = whole_path m.sites m.triangles m.halfedges (table_of m) p begin in
    let some = path_some mesh p to begin below in
    let few = path_few mesh p to begin below in
    let f = fitting (rw z at b) (omega (arith, few)) in (
      z,
      f.2,
      end_is a i h ∙ ap (λ (j : ℕ). get_or path (j - 1) 0) (sym f.1) ∙ ap (λ (l : List ℕ). get_or l (k - 1) 0) (sym f.0) ∙ get_or-take k x' (k - 1) 0 (omega (arith, f.1, some)),
    )

-- what voronoi_cell_wkb writes, with room for it, is what stands between the two starts of the cell
pub image_single : (v : List Float) (off ix : List ℕ) {st st' o o' : List ℕ} {w : ℕ} → AllWkb v off ix st st' o o' w 0 → (s : ℕ) → s < length off - 1
    → {x x' : List ℕ} {k r : ℕ} → length (image_at v off ix s) ≤ length x → CellWkb v off ix s x x' k r
    → (r ≡ 0) × (take k x' ≡ take (get_or st' (suc s) 0 - get_or st' s 0) (drop (get_or st' s 0) o'))
image_single v off ix a = all-images.image_single a
