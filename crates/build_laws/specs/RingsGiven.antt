-- Theorem: the rings that clipping is given are the mesh's (Rings of crate mesh). A hull cell's ring is its site's without the extensions, which never are circumcenters,
-- since a point that is added reuses only vertices after them; the rest of the build takes for an inner site, from its lowest half-edge, its site's ring as it is.
use Rattle.std.specs.Prelude.{◌≡◌, ◌≢◌, ltb}
use Rattle.std.proofs.Math.Path.{refl, ap}
use Rattle.std.proofs.Common.{sym, ◌∙◌, arith, length-append, lt-ltb, le-ltb, ne_eqb}
use mathlib.Core.List.{List, [], ◌∷◌, ◌++◌, append-nil}
use Prim.Native.Nat.{ℕ, zero, suc, ◌-◌, ◌*◌, ◌/◌, ◌≤◌, ◌<◌}
use Rattle.std.proofs.Math.ListN.{length, get_or}
use Rattle.base.specs.common.Pick.{pick}
use Rattle.base.specs.numbers.Numbers.{EMPTY}
use Rattle.plane.specs.boxes.Box.{corners_of}
use Rattle.plane.specs.declared.boxes.BoundingBox.{BoundingBox}
use Rattle.mesh.specs.Mesh.{end_of, pair_of, whole_of}
use Rattle.mesh.specs.Accepted.{Mesh, table_of, Accepted}
use Rattle.mesh.specs.Rings.{walk_triangles, site_ring}
use Rattle.mesh.specs.laws.Facts.{topology, paired, end_site, leftmost_lowest}
use Rattle.mesh.specs.laws.Occurs.{occ_there}
use Rattle.mesh.specs.laws.Walks.{walk_ends}
use Rattle.definition.specs.Build.{Extensions, ring_from, hull_ring}
use Rattle.definition.specs.Short.{extensions}
use Rattle.definition.specs.laws.Gives.{gives_ok}
use Rattle.build_laws.specs.Tries.{centers_to, AllExtended}
use Rattle.build_laws.specs.laws.Start.{Extended, extend_from_lem}
use Rattle.build_laws.specs.laws.BeforeCells.{centers_length}

-- the circumcenters among the entries of a ring: those below their number
abbrev pub centers_in : ℕ → List ℕ → List ℕ
centers_in nc [] = []
centers_in nc (v ∷ l) = pick (ltb v nc) (λ _. v ∷ centers_in nc l) (λ _. centers_in nc l)

-- an extension is none of them
past : (nc v : ℕ) (l : List ℕ) → nc ≤ v → centers_in nc (v ∷ l) ≡ centers_in nc l
past nc v l h = rw (le-ltb v nc h) refl

-- triangles all are
triangles_in : (nc : ℕ) (l r : List ℕ) → ((k : ℕ) → k < length l → get_or l k 0 < 3 * nc) → centers_in nc (walk_triangles l ++ r) ≡ walk_triangles l ++ centers_in nc r
triangles_in nc [] r h = refl
triangles_in nc (e ∷ l) r h =
    let first : e / 3 < nc = omega (arith, h 0 (omega arith)) in
    rw (lt-ltb (e / 3) nc first) (ap (λ (q : List ℕ). e / 3 ∷ q) (triangles_in nc l r (λ k b. h (suc k) (omega arith))))

module _ {m : Mesh} (a : Accepted m) where
  walk_low : (e k : ℕ) → k < length (whole_of m.halfedges e) → get_or (whole_of m.halfedges e) k 0 < 3 * (length m.triangles / 3)
  walk_low e k h =
      let in_mesh = walk_ends m.triangles m.halfedges (paired (topology a)) e (length m.halfedges) e (get_or (whole_of m.halfedges e) k 0) (occ_there (whole_of m.halfedges e) k h) in
      omega (arith, in_mesh.0, (topology a).same, (topology a).threes)

  -- at hull place i, between the extensions xs
  module _ (xs : List ℕ) (beyond : (i : ℕ) → i < length m.hull → length m.triangles / 3 ≤ get_or xs i 0) where
    pub place_ring : (i : ℕ) → i < length m.hull
        → centers_in (length m.triangles / 3) (hull_ring m.halfedges m.hull (table_of m) xs i) ≡ site_ring m (get_or m.hull i 0)
    unfolding hull_ring
    place_ring zero h =
        let nc = length m.triangles / 3 in
        let w = whole_of m.halfedges (get_or (table_of m) (get_or m.hull 0 0) 0) in
        let before = get_or xs (length m.hull - 1) 0 in
        past nc (get_or xs 0 0) (before ∷ walk_triangles w) (beyond 0 h)
        ∙ past nc before (walk_triangles w) (beyond (length m.hull - 1) (omega arith))
        ∙ ap (centers_in nc) (sym (append-nil (walk_triangles w)))
        ∙ triangles_in nc w [] (walk_low (get_or (table_of m) (get_or m.hull 0 0) 0))
        ∙ append-nil (walk_triangles w)
    place_ring (suc i) h =
        let nc = length m.triangles / 3 in
        let w = whole_of m.halfedges (get_or (table_of m) (get_or m.hull (suc i) 0) 0) in
        let after = get_or xs (suc i) 0 ∷ [] in
        let later : hull_ring m.halfedges m.hull (table_of m) xs (suc i) ≡ get_or xs (suc i - 1) 0 ∷ (walk_triangles w ++ after) =
        rw (ne_eqb (suc i) 0 (λ q. omega arith)) refl in
        ap (centers_in nc) later
        ∙ past nc (get_or xs (suc i - 1) 0) (walk_triangles w ++ after) (beyond (suc i - 1) (omega arith))
        ∙ triangles_in nc w after (walk_low (get_or (table_of m) (get_or m.hull (suc i) 0) 0))
        ∙ ap (λ (q : List ℕ). walk_triangles w ++ q) (past nc (get_or xs (suc i) 0) [] (beyond (suc i) h))
        ∙ append-nil (walk_triangles w)

  -- the extensions of a build are such
  pub hull_given : {b : BoundingBox} {x : Extensions} → AllExtended m b x → (i : ℕ) → i < length m.hull
      → centers_in (length m.triangles / 3) (hull_ring m.halfedges m.hull (table_of m) x.at i) ≡ site_ring m (get_or m.hull i 0)
  hull_given {b} {x} e =
      let nc = length m.triangles / 3 in
      let centers = centers_to m.sites m.triangles nc in
      let long : nc ≤ length (centers ++ corners_of b) = omega (arith, length-append centers (corners_of b), centers_length m.sites m.triangles nc) in
      let begin = extensions (centers ++ corners_of b) [] [] in
      let r : Extended nc (length m.hull) begin x =
      gives_ok (Extended nc (length m.hull) begin)
      (extend_from_lem m.sites m.triangles m.hull (table_of m) nc 0 (length m.hull) begin long (λ i h. absurd (omega arith))) e.reached in
      place_ring x.at (λ i h. (r.beyond i (omega (arith, r.counted))).0)

  -- an inner site's lowest half-edge is its leftmost
  pub inner_given : (e : ℕ) → e < length m.halfedges
      → ((k : ℕ) → k < length m.halfedges → end_of m.triangles k ≡ end_of m.triangles e → pair_of m.halfedges k ≢ EMPTY)
      → ((k : ℕ) → k < e → end_of m.triangles k ≢ end_of m.triangles e) → ring_from m.halfedges e ≡ site_ring m (end_of m.triangles e)
  inner_given e h inner lowest =
      let ok = topology a in
      ap (λ (f : ℕ). walk_triangles (whole_of m.halfedges f)) (sym (leftmost_lowest ok (end_of m.triangles e) (end_site ok e h) e h refl inner lowest))
