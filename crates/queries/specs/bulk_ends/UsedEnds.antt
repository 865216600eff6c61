-- Theorem: from a site in use every path of `voronoi_ends` begins and ends at a site in use. (From a site in no triangle each is that site alone.)
use Rattle.std.proofs.Common.{sym, subst, arith}
use Rattle.std.specs.Prelude.{List, ℕ, zero, suc, ◌/◌, ◌<◌, Float, length, get_or}
use Rattle.base.specs.common.Count.{occ}
use Rattle.plane.specs.points.Flat.{point_at}
use Rattle.mesh.specs.Accepted.{Mesh, table_of, site_count}
use Rattle.mesh.specs.laws.Facts.{topology}
use Rattle.walks.specs.neighbours.laws.Used.{neighbours_used}
use Rattle.walks.specs.paths.Path.{last_of}
use Rattle.walks.specs.paths.PathRule.{PathFrom, stops, hops}
use Rattle.walks.specs.paths.laws.Parts.{rule_some}
use Rattle.walks.specs.paths.laws.PathNeeds.{ready, towards}
use Rattle.walks.specs.paths.laws.WholePath.{last_cons, whole_runs}
use Rattle.queries.specs.bulk_ends.Promise.{EndsAnswer}
use Rattle.queries.specs.bulk_ends.EndsTheorem.{begin_of, ends_mesh, ends_kept, begin_below, end_is}

-- a path whose neighbours all are in use ends in use
last_used : (tri : List ℕ) {d : ℕ → Float} {nb : ℕ → List ℕ} → ((s k : ℕ) → k < length (nb s) → 0 < occ (get_or (nb s) k 0) tri) → {s : ℕ} {l : List ℕ}
    → PathFrom d nb s l → 0 < occ s tri → 0 < occ (last_of l) tri
last_used tri next (stops none) u = u
last_used tri next (hops {s} {n} {l} g h r) u =
    subst (λ (v : ℕ). 0 < occ v tri) (sym (last_cons s l (rule_some r)))
    (last_used tri next r (subst (λ (v : ℕ). 0 < occ v tri) g.there (next s g.place g.within)))

module _ {m : Mesh} {s : ℕ} {points : List Float} {w w' o o' : List ℕ} (a : EndsAnswer m s points w w' o o' 0) (u : 0 < occ s m.triangles) where
  end_used : (i : ℕ) → i < length points / 2 → 0 < occ (begin_of s o' i) m.triangles → 0 < occ (get_or o' i 0) m.triangles
  end_used i h b =
      let t = topology (ends_mesh a) in
      let fine = ready t in
      let to = towards m.sites (point_at points i) (ends_mesh a).coordinates (ends_kept a i h) in
      let runs = whole_runs m.sites m.triangles m.halfedges (table_of m) (point_at points i) (site_count m.sites) fine to (begin_of s o' i) (begin_below a i h) in
      subst (λ (v : ℕ). 0 < occ v m.triangles) (sym (end_is a i h))
      (last_used m.triangles (λ v k l. neighbours_used m.triangles m.halfedges fine.paired.threes fine.even (table_of m) v k l) runs b)

  pub begin_used : (i : ℕ) → i < length points / 2 → 0 < occ (begin_of s o' i) m.triangles
  begin_used zero h = u
  begin_used (suc i) h = end_used i (omega arith) (begin_used i (omega arith))
