-- Theorem: after 0 the mesh is accepted and every point is sound; each entry is the last site of the whole path to its point, from the given site or from the entry before.
use Rattle.std.specs.Prelude.{◌≡◌, true, List, ◌++◌, Float, length, get_or, drop}
use Rattle.std.proofs.Math.Path.{refl, sym}
use Rattle.std.proofs.Common.{ap, ◌∙◌, subst, ⊎_elim, arith, rules}
use Prim.Native.Nat.{ℕ, zero, suc, ◌-◌, ◌/◌, ◌≤◌, ◌<◌}
use Rattle.std.proofs.Math.ListN.{get_or-append}
use Rattle.base.specs.common.laws.Refusals.{finds_keep}
use Rattle.plane.specs.points.Flat.{point_at}
use Rattle.plane.specs.points.Rules.{ok_site}
use Rattle.plane.specs.declared.points.Point.{Point}
use Rattle.mesh.specs.Accepted.{Mesh, Accepted, table_of, site_count}
use Rattle.mesh.specs.laws.Facts.{topology}
use Rattle.mesh.specs.laws.Occurs.{occ_there}
use Rattle.mesh.specs.laws.Verdicts.{keep_accepted}
use Rattle.mesh_check.specs.whole.AtExit.{at_exit}
use Rattle.walks.specs.paths.Path.{whole_path, last_of}
use Rattle.walks.specs.paths.laws.Parts.{rule_some}
use Rattle.walks.specs.paths.laws.PathNeeds.{ready, towards}
use Rattle.walks.specs.paths.laws.Used.{used_sum}
use Rattle.walks.specs.paths.laws.WholePath.{whole_runs, whole_below, whole_short, whole_alone, in_use_or_alone}
use Rattle.queries.specs.bulk_ends.Ends.{stands_at, end_from, all_ends}
use Rattle.queries.specs.bulk_ends.Promise.{ends_room, EndsAnswer}
use Rattle.queries.specs.bulk_ends.laws.Writes.{ends_length, end_at, stands_after}

-- where the path to point i begins: at the site s, or at the end before it, o being the ends
abbrev pub begin_of : ℕ → List ℕ → ℕ → ℕ
begin_of s o zero = s
begin_of s o (suc i) = get_or o i 0

-- ---- a path on an accepted mesh, from any site: it has an entry, no more than there are sites, and ends at a site
module _ {m : Mesh} (a : Accepted m) (p : Point) (to : ok_site p ≡ true) (s : ℕ) (l : s < site_count m.sites) where
  abbrev path : List ℕ
  path = whole_path m.sites m.triangles m.halfedges (table_of m) p s

  pub path_some : 0 < length (whole_path m.sites m.triangles m.halfedges (table_of m) p s)
  path_some =
      rule_some (whole_runs m.sites m.triangles m.halfedges (table_of m) p (site_count m.sites) (ready (topology a)) (towards m.sites p a.coordinates to) s l)

  pub path_few : length (whole_path m.sites m.triangles m.halfedges (table_of m) p s) ≤ site_count m.sites
  path_few =
      let n = site_count m.sites in
      let fine = ready (topology a) in
      let t = towards m.sites p a.coordinates to in
      ⊎_elim
      (λ u. omega (arith, whole_short m.sites m.triangles m.halfedges (table_of m) p n fine t s u, used_sum m.triangles n))
      (λ q. omega (arith, ap length (whole_alone m.sites m.triangles m.halfedges (table_of m) p n fine t s l q)))
      (in_use_or_alone m.sites m.triangles m.halfedges (table_of m) p n fine t s l)

  end_below : last_of path < site_count m.sites
  end_below =
      whole_below m.sites m.triangles m.halfedges (table_of m) p (site_count m.sites) (ready (topology a)) (towards m.sites p a.coordinates to) s (last_of path) l
      (occ_there path (length path - 1) (omega (arith, path_some)))

module _ {m : Mesh} {s : ℕ} {points : List Float} {w w' o o' : List ℕ} (a : EndsAnswer m s points w w' o o' 0) where
  -- what was given
  pub ends_mesh : Accepted m
  ends_mesh =
      let room = ends_room (site_count m.sites) (length points / 2) (length w) (length o) ≡ true in
      let k = (finds_keep (λ r. r ≡ 0) (search rules) refl a.number).1 in
      keep_accepted m room (k.0, (k.1.0, k.1.1.1.1))

  pub ends_site : s < site_count m.sites
  ends_site = (finds_keep (λ r. r ≡ 0) (search rules) refl a.number).1.1.1.0

  pub ends_kept : (i : ℕ) → i < length points / 2 → ok_site (point_at points i) ≡ true
  ends_kept i h = (finds_keep (λ r. r ≡ 0) (search rules) refl a.number).1.1.1.1.0.each i h

  abbrev end : Point → ℕ → ℕ
  end = end_from m.sites m.triangles m.halfedges (table_of m)

  out_is : o' ≡ all_ends m points s ++ drop (length (all_ends m points s)) o
  unfolding at_exit
  out_is = a.out

  entry : (i : ℕ) → i < length points / 2 → get_or o' i 0 ≡ get_or (all_ends m points s) i 0
  entry i h =
      ap (λ (l : List ℕ). get_or l i 0) out_is
      ∙ get_or-append (all_ends m points s) (drop (length (all_ends m points s)) o) 0 i (omega (arith, ends_length end points s (length points / 2)))

  begin : (i : ℕ) → i < length points / 2 → stands_at end points s i ≡ begin_of s o' i
  unfolding stands_at
  begin zero h = refl
  begin (suc i) h = stands_after end points s (length points / 2) i (omega arith) ∙ sym (entry i (omega arith))

  pub end_is : (i : ℕ) → i < length points / 2
      → get_or o' i 0 ≡ last_of (whole_path m.sites m.triangles m.halfedges (table_of m) (point_at points i) (begin_of s o' i))
  end_is i h = entry i h ∙ end_at end points s (length points / 2) i h ∙ ap (end (point_at points i)) (begin i h)

  -- each path begins at a site
  pub begin_below : (i : ℕ) → i < length points / 2 → begin_of s o' i < site_count m.sites
  begin_below zero h = ends_site
  begin_below (suc i) h =
      let l : i < length points / 2 = omega arith in
      subst (λ (v : ℕ). v < site_count m.sites) (sym (end_is i l)) (end_below ends_mesh (point_at points i) (ends_kept i l) (begin_of s o' i) (begin_below i l))
