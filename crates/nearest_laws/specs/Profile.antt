-- Theorem: on a mesh of the grid whose triangles turn as they must, whose circles are empty and whose hull keeps the short form, with the floats of the same
-- numbers, every whole path towards an admitted destination ends at a site of least distance over all sites in use, exactly and as computed; so does each
-- corner's owner, from the builder's own start.
use Rattle.std.specs.Prelude.{◌≡◌, refl, true, List, [], ◌∷◌, ◌⊎◌, T, Float, ℤ, pos, negsuc, nat_abs, ◌-ℤ◌, ◌*ℤ◌, length, get_or}
use Rattle.std.proofs.Common.{sym, ap, subst, inl, inr, ⊎_elim, arith}
use Prim.Native.Nat.{ℕ, zero, suc, ◌+◌, ◌*◌, ◌/◌, ◌%◌, ◌^◌, ◌<◌}
use Rattle.std.specs.Float.{nan}
use Rattle.std.specs.Float.Ieee.{le}
use Rattle.std.proofs.lemmas.List.{length-map}
use Rattle.std.specs.Int.Signed.{le_z}
use Rattle.base.specs.common.laws.Decide.{lt_or_ge}
use Rattle.plane.specs.points.Flat.{point_at}
use Rattle.plane.specs.points.Plane as plane
use Rattle.plane.specs.points.Rules.{ok_site}
use Rattle.plane.specs.declared.points.Point.{Point}
use Rattle.plane.specs.boxes.Box.{corners_of}
use Rattle.plane.specs.declared.boxes.BoundingBox.{BoundingBox}
use Rattle.mesh.specs.Mesh.{start_of, end_of, pair_of, Used, leftmost_of}
use Rattle.mesh.specs.Hull.{next_place, next_site}
use Rattle.mesh.specs.laws.Border.{after_lt}
use Rattle.mesh.specs.Accepted.{mesh, Accepted, site_count}
use Rattle.mesh.specs.laws.Facts.{topology, entry_site}
use Rattle.walks.specs.paths.Path.{dist_of, whole_path, last_of}
use Rattle.definition.specs.Build.{owners_from}
use Rattle.grid.specs.Plane.{place_at, Within, WithinAt}
use Rattle.grid.specs.declared.Raised.{Raised}
use Rattle.grid.specs.Raised.{up, raised_of, area_of, level_of}
use Rattle.grid.specs.laws.Pairs.{Is, is_add}
use Rattle.grid.specs.laws.Same.{Inside, up_low}
use Rattle.grid.specs.scan.Judged.{apex_of, TurnAt, CircleAt}
use Rattle.grid.specs.scan.laws.Scannable.{Scannable}
use Rattle.grid.specs.border.ShortForm.{CornerAt, LoneAt}
use Rattle.grid.specs.floats.Sites.{as_float, floats_of}
use Rattle.grid.specs.floats.Equal as equal
use Rattle.nearest_laws.specs.laws.Signs.{Pos}
use Rattle.nearest_laws.specs.laws.Circle.{by, move, area_moved, lift_moved}
use Rattle.nearest_laws.specs.laws.Units.{further, moved_by, short, shift_low, on_grid, few_units, destined, destination, apart, is_gap, is_ordered}
use Rattle.nearest_laws.specs.Nearest.{Checked, gap, far_from}
use Rattle.nearest_laws.specs.OnGrid.{turns_up, circles_up}
use Rattle.nearest_laws.specs.OnHull.{one_place, hull_convex}
use Rattle.nearest_laws.specs.Admitted.{AdmittedPoint, signed, IsWhole, AreWhole, squared_units}
use Rattle.nearest_laws.specs.Ends.{Multiple, low_at, path_nearest}
use Rattle.nearest_laws.specs.Owners.{Goal, Own, build_owners}

-- a site in use of least distance to p over all sites in use, in whole numbers and as computed with these floats
pub record NearestOf (grid : List ℤ) (sites : List Float) (tri : List ℕ) {k : ℕ} {p : Point} (a : AdmittedPoint k p) (s : ℕ) : Type 0 where
  pub used : Used tri s
  pub exactly : (t : ℕ) → Used tri t → le_z (squared_units a (place_at grid s)) (squared_units a (place_at grid t)) ≡ true
  pub computed : (t : ℕ) → Used tri t → T (le (dist_of sites p s) (dist_of sites p t))

-- with the floats that voronoi_grid_sites makes
abbrev pub NearestSite : (grid : List ℤ) (tri : List ℕ) {k : ℕ} {p : Point} → AdmittedPoint k p → ℕ → Type 0
NearestSite grid tri a s = NearestOf grid (floats_of grid) tri a s

-- an admitted destination keeps rule 6
pub admitted_kept : {k : ℕ} (p : Point) → AdmittedPoint k p → ok_site p ≡ true
unfolding ok_site
admitted_kept {k} p d =
    let low = shift_low k (few_units k d.x) in
    rw (low_at k (moved_by k) p.x (destined k d.x) low (destination k d.x), low_at k (moved_by k) p.y (destined k d.y) low (destination k d.y))

module _ (grid : List ℤ) {sites : List Float} (are : AreWhole grid sites) {tri he hull : List ℕ} (a : Accepted (mesh sites tri he hull))
    (within : (s : ℕ) → s < length grid / 2 → WithinAt grid s)
    (turns : (t : ℕ) → t < length tri / 3 → TurnAt grid tri t) (circles : (e : ℕ) → e < length tri → CircleAt grid tri he e)
    (corners : (i : ℕ) → i < length hull → CornerAt grid hull i) (lone : (i : ℕ) → i < length hull → LoneAt grid hull i)
  where
    count : site_count sites ≡ length grid / 2
    count = ap (λ n. n / 2) are.many

    below : {v : ℕ} → v < site_count sites → v < length grid / 2
    below {v} l = subst (λ n. v < n) count l

    scannable : Scannable grid tri he
    scannable = record {
      named = record { within = within; threes = (topology a).threes; small = (topology a).small; sites = λ k l. below (entry_site (topology a) k l) };
      same = (topology a).same;
      pairs = (topology a).pairs;
    }

    -- coordinates moved up
    abbrev X : ℕ → ℕ
    X v = up (place_at grid v).x + further

    abbrev Y : ℕ → ℕ
    Y v = up (place_at grid v).y + further

    abbrev at : ℕ → Raised
    at v = raised_of (place_at grid v)

    inside : (i : ℕ) → i < length hull → Inside (place_at grid (get_or hull i 0))
    inside i l = let w = within (get_or hull i 0) (below ((topology a).border.fresh i l).0) in record { x = w.0; y = w.1 }

    levels : (i : ℕ) → i < length hull → level_of (at (get_or hull i 0)) ≡ level_of (at (next_site hull i)) → ⊥
    levels i l q =
        let o = (topology a).border.edges i l in
        let h = turns_up grid tri he scannable turns o.0 o.1 in
        let g = subst (λ s. Pos (area_of (at s) (at (end_of tri o.0)) (at (apex_of tri o.0)))) o.3 h in
        let f = subst (λ s. Pos (area_of (at (get_or hull i 0)) (at s) (at (apex_of tri o.0)))) o.4 g in
        one_place (at (get_or hull i 0)) (at (next_site hull i)) (at (apex_of tri o.0)) (up_low _ (inside i l).x) (up_low _ (inside (next_place (length hull) i) (after_lt (length hull) i l)).x) q f

    good : Checked (topology a) X Y
    unfolding by
    good = record {
      turns = λ e l. moved (at (start_of tri e)) (at (end_of tri e)) (at (apex_of tri e)) (turns_up grid tri he scannable turns e l);
      circles = λ e l n. lift_moved further (at (start_of tri e)) (at (end_of tri e)) (at (apex_of tri e)) (at (apex_of tri (pair_of he e))) (circles_up grid tri he scannable circles e l n);
      convex = hull_convex grid hull (omega (arith, a.counts.three_on_hull)) inside levels corners lone further;
    }
      where
        moved : (u v w : Raised) → Pos (area_of u v w) → Pos (area_of (move further u) (move further v) (move further w))
        moved u v w h = omega (arith, area_moved further u v w)

    -- ---- a destination
    module _ (k : ℕ) (few : 2 ^ k < 8192) where
      whole : (v : ℕ) → v < site_count sites → Multiple k (moved_by k) (point_at sites v).x (2 ^ k * X v) × Multiple k (moved_by k) (point_at sites v).y (2 ^ k * Y v)
      whole v l =
          let w = within v (below l) in
          (on_grid k few w.0 (are.each (2 * v) (omega (arith, below l))), on_grid k few w.1 (are.each (2 * v + 1) (omega (arith, below l))))

      goal : (p : Point) → AdmittedPoint k p → Goal a X Y good k (moved_by k) (short k few) (shift_low k few) whole p
      goal p d = record {
        px = destined k d.x;
        py = destined k d.y;
        at_x = destination k d.x;
        at_y = destination k d.y;
        near = λ v l. let w = within v (below l) in omega (arith, apart k d.x (place_at grid v).x w.0, apart k d.y (place_at grid v).y w.1);
      }

      far : (p : Point) (d : AdmittedPoint k p) (v : ℕ) → Used tri v → Is (far_from (2 ^ k) (destined k d.x) (destined k d.y) (X v) (Y v)) 0 (squared_units d (place_at grid v))
      far p d v (i, l, q) =
          let w = within v (subst (λ z. z < length grid / 2) q (below (entry_site (topology a) i l))) in
          let dx = pos (2 ^ k) *ℤ (place_at grid v).x -ℤ signed d.x.minus d.x.units in
          let dy = pos (2 ^ k) *ℤ (place_at grid v).y -ℤ signed d.y.minus d.y.units in
          is_add (gap (2 ^ k * X v) (destined k d.x)) 0 (gap (2 ^ k * Y v) (destined k d.y)) 0 (dx *ℤ dx) (dy *ℤ dy)
          (is_gap k d.x (place_at grid v).x w.0) (is_gap k d.y (place_at grid v).y w.1)

      told : (p : Point) (d : AdmittedPoint k p) (s : ℕ) → Own a X Y good k (moved_by k) (short k few) (shift_low k few) whole p (goal p d) s → NearestOf grid sites tri d s
      unfolding goal
      told p d s c = record {
        used = c.used;
        exactly = λ t u. is_ordered (F s) (F t) (squared_units d (place_at grid s)) (squared_units d (place_at grid t)) (far p d s c.used) (far p d t u) (c.exactly t u);
        computed = c.computed;
      }
        where
          F : ℕ → ℕ
          F v = far_from (2 ^ k) (destined k d.x) (destined k d.y) (X v) (Y v)

    -- the theorem on paths
    pub ends_nearest_of : {k : ℕ} (p : Point) (d : AdmittedPoint k p) (s : ℕ) → Used tri s
        → NearestOf grid sites tri d (last_of (whole_path sites tri he (leftmost_of tri he (site_count sites)) p s))
    unfolding goal
    ends_nearest_of {k} p d s u =
        let few = few_units k d.x in
        let g = goal k few p d in
        told k few p d _ (path_nearest a X Y good k (moved_by k) (short k few) (shift_low k few) (whole k few) p g.px g.py g.at_x g.at_y g.near s u)

    -- and on the corners of a box, each in units of its own
    pub owns_nearest_of : (b : BoundingBox) (ks : (c : ℕ) → c < 4 → ℕ) (d : (c : ℕ) (l : c < 4) → AdmittedPoint (ks c l) (get_or (corners_of b) c (plane.at nan nan))) (c : ℕ) (l : c < 4)
        → NearestOf grid sites tri (d c l)
        (get_or (owners_from sites tri he (leftmost_of tri he (site_count sites)) (site_count sites) (get_or hull 0 0) (corners_of b)) c 0)
    owns_nearest_of b ks d c l =
        let k = ks c l in
        let few = few_units k (d c l).x in
        told k few _ (d c l) _ (build_owners a X Y good k (moved_by k) (short k few) (shift_low k few) (whole k few) b (λ i h. admitted_kept _ (d i h)) c l (goal k few _ (d c l)))

-- ---- the floats that voronoi_grid_sites makes
float_at : (grid : List ℤ) (i : ℕ) → i < length grid → get_or (floats_of grid) i nan ≡ as_float (get_or grid i (pos 0))
float_at [] i l = absurd (omega arith)
float_at (x ∷ grid) zero l = refl
float_at (x ∷ grid) (suc i) l = float_at grid i (omega arith)

own_sign : (z : ℤ) → signed (equal.minus z) (nat_abs z) ≡ z
own_sign (pos n) = refl
own_sign (negsuc n) = refl

module _ (grid : List ℤ) {tri he hull : List ℕ} (a : Accepted (mesh (floats_of grid) tri he hull))
    (within : (s : ℕ) → s < length grid / 2 → WithinAt grid s)
    (turns : (t : ℕ) → t < length tri / 3 → TurnAt grid tri t) (circles : (e : ℕ) → e < length tri → CircleAt grid tri he e)
    (corners : (i : ℕ) → i < length hull → CornerAt grid hull i) (lone : (i : ℕ) → i < length hull → LoneAt grid hull i)
  where
    pair : length grid % 2 ≡ 0
    pair = rw (length-map grid as_float) at a.counts.even

    inside_at : (i : ℕ) → i < length grid → Within (get_or grid i (pos 0))
    inside_at i l =
        let w = within (i / 2) (omega (arith, pair)) in
        ⊎_elim (λ q. subst (λ j. Within (get_or grid j (pos 0))) (omega (arith, q)) w.0) (λ q. subst (λ j. Within (get_or grid j (pos 0))) (omega (arith, q)) w.1) (even_or_odd i)
      where
        even_or_odd : (i : ℕ) → (i % 2 ≡ 0) ⊎ (i % 2 ≡ 1)
        even_or_odd i = ⊎_elim (λ l. inl (omega arith)) (λ l. inr (omega arith)) (lt_or_ge (i % 2) 1)

    floats : AreWhole grid (floats_of grid)
    floats = record {
      many = length-map grid as_float;
      each = λ i l.
          let z = get_or grid i (pos 0) in
          subst (IsWhole z) (sym (float_at grid i l)) (record { minus = equal.minus z; sign = own_sign z; value = equal.value z (inside_at i l) });
    }

    pub ends_nearest : {k : ℕ} (p : Point) (d : AdmittedPoint k p) (s : ℕ) → Used tri s
        → NearestSite grid tri d (last_of (whole_path (floats_of grid) tri he (leftmost_of tri he (site_count (floats_of grid))) p s))
    ends_nearest = ends_nearest_of grid floats a within turns circles corners lone

    pub owns_nearest : (b : BoundingBox) (ks : (c : ℕ) → c < 4 → ℕ) (d : (c : ℕ) (l : c < 4) → AdmittedPoint (ks c l) (get_or (corners_of b) c (plane.at nan nan))) (c : ℕ) (l : c < 4)
        → NearestSite grid tri (d c l)
        (get_or (owners_from (floats_of grid) tri he (leftmost_of tri he (site_count (floats_of grid))) (site_count (floats_of grid)) (get_or hull 0 0) (corners_of b)) c 0)
    owns_nearest = owns_nearest_of grid floats a within turns circles corners lone
