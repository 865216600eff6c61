-- From start to end: what the cells hold at the end gives the theorems on wrapping and room.
use Rattle.std.specs.Prelude.{◌≡◌, true, ℕ, ◌+◌, ◌*◌, ◌/◌, ◌≤◌, ◌<◌, Float, get_or}
use Rattle.std.proofs.Math.Path.{refl}
use Rattle.std.proofs.Common.{◌∙◌, inl, inr, ⊎_elim, arith, add-zero}
use mathlib.Core.List.{List, [], ◌∷◌, ◌++◌}
use Rattle.std.proofs.Math.ListN.{length, length-append}
use Rattle.base.specs.common.Count.{occ}
use Rattle.base.specs.common.laws.Count.{occ_length, same_cases}
use Rattle.base.specs.numbers.Numbers.{EMPTY}
use Rattle.plane.specs.declared.points.Point.{Point}
use Rattle.plane.specs.boxes.Box.{corners_of}
use Rattle.plane.specs.boxes.Finite.{BoundedBox}
use Rattle.plane.specs.declared.boxes.BoundingBox.{BoundingBox}
use Rattle.mesh.specs.Mesh.{leftmost_of}
use Rattle.mesh.specs.Accepted.{mesh, AcceptedWith, site_count}
use Rattle.mesh.specs.laws.Facts.{topology}
use Rattle.walks.specs.paths.Path.{last_of}
use Rattle.definition.specs.Cell.{Mark, plain, crossing, wrapped, Entry, Taken, in_box}
use Rattle.definition.specs.Build.{centers_from, owners_from, Extensions, extend_from, CellState, clip_all, if_wrapped, wrapped_in, all_entries, lost_from, Built, build}
use Rattle.definition.specs.Short.{extensions}
use Rattle.definition.specs.laws.Gives.{Gives, gives_then}
use Rattle.definition.specs.Measures.{ValidEntry, ValidEntries, new_points, share_of, Room, lost_left}
use Rattle.definition.proofs.laws.Puts.{all_turned}
use Rattle.build_laws.specs.laws.LostCorners.{lost_left_lem}
use Rattle.build_laws.specs.laws.Grown.{new_le}
use Rattle.build_laws.specs.laws.Inside.{in_grown}
use Rattle.build_laws.specs.laws.CellsSoFar.{CellsSoFar}
use Rattle.build_laws.specs.laws.Owners.{owners_length, owner, ready, towards_corner}
use Rattle.build_laws.specs.laws.AllCells.{all_filled, clip_all_lem}
use Rattle.build_laws.specs.laws.Start.{centers_from_lem, Extended, extend_from_lem}
use Rattle.build_laws.specs.Wrapping.{path_to, Wrapping}

-- a wrapped entry is a corner
wrapped_placed : (P : ℕ → Type 0) (nc n v : ℕ) (es : List Entry) → ValidEntries P nc n es → 0 < occ v (wrapped_in es) → (nc ≤ v) × (v < nc + 4)
unfolding wrapped_in
wrapped_placed P nc n v [] h o = absurd (omega arith)
wrapped_placed P nc n v (e ∷ es) h o = by e.mark e.at h.0 (wrapped_placed P nc n v es h.1) o
  where
    by : (m : Mark) (w : ℕ) → ValidEntry P nc n m w → (0 < occ v (wrapped_in es) → (nc ≤ v) × (v < nc + 4)) → 0 < occ v (if_wrapped m w ++ wrapped_in es) → (nc ≤ v) × (v < nc + 4)
    by plain w p k l = k l
    by crossing w p k l = k l
    by wrapped w p k l = ⊎_elim (λ q. rw q.0 p) (λ q. k (omega (arith, q.1))) (same_cases v w)

module _ {Fans : Type 0} {sites : List Float} {tri he hull : List ℕ} (a : AcceptedWith Fans (mesh sites tri he hull)) {b : BoundingBox} (box : BoundedBox 101 b) where
  abbrev table : List ℕ
  table = leftmost_of tri he (site_count sites)

  abbrev found : List ℕ
  found = owners_from sites tri he table (site_count sites) (get_or hull 0 0) (corners_of b)

  four_corners : length (corners_of b) ≡ 4
  unfolding corners_of
  four_corners = refl

  four_found : length found ≡ 4
  four_found = owners_length sites tri he table (site_count sites) (get_or hull 0 0) (corners_of b) ∙ four_corners

  first_site : get_or hull 0 0 < site_count sites
  first_site = (a.topology.border.fresh 0 (omega (arith, a.counts.three_on_hull))).0

  pub owner_of : (c : ℕ) → c < 4 → (get_or found c 0 ≡ last_of (path_to (mesh sites tri he hull) b c)) × (get_or found c 0 < site_count sites)
  owner_of c l =
      owner sites tri he table (site_count sites) (ready a) (corners_of b) (get_or hull 0 0) first_site (λ d k. towards_corner a box d (rw four_corners at k)) c (rw four_corners l)

  -- the lost corners are those that are with their owners still and stand in no cell
  pub lost_entries : (u : ℕ → ℕ) (vs : List Point) (begun : List Taken) (s : CellState) → CellsSoFar b (length tri / 3) (site_count sites) u vs found begun s
      → lost_from (length tri / 3) 4 s.cells ≡ lost_left (length tri / 3) s.owners (all_entries s.cells)
  lost_entries u vs begun s h =
      let nc = length tri / 3 in
      let q : lost_from (nc + 0) (length s.owners) s.cells ≡ lost_left (nc + 0) s.owners (all_entries s.cells) =
      lost_left_lem nc s.cells s.owners 0 (λ c l. let z : 0 + c ≡ c = omega arith in rw z (⊎_elim
      (λ x. inl (omega (arith, x.0, (owner_of c (omega (arith, h.four))).1, a.counts.few_sites)))
      (λ x. inr x)
      (h.corner c (omega (arith, h.four))))) in
      rw (add-zero nc, h.four) at q

  abbrev pub Good : Built → Type 0
  Good r = Wrapping (mesh sites tri he hull) b r × Room tri hull b r

  finish : (x : Extensions) → length x.verts ≡ length tri / 3 + 4 + new_points x.steps → length x.steps ≡ length hull → (s : CellState)
      → CellsSoFar b (length tri / 3) (site_count sites) (share_of tri hull) x.verts found x.steps s
      → Good (record { verts = s.verts; cells = s.cells; owners = found; lost = lost_from (length tri / 3) 4 s.cells; steps = s.steps })
  finish x lx few s h =
      let nc = length tri / 3 in
      let threes : 3 * nc ≡ length tri = omega (arith, a.counts.threes) in
      let all = all_filled tri hull s.cells in (
        record {
          once = λ c l. ⊎_elim (λ w. omega (arith, w.1)) (λ w. omega (arith, w.1)) (h.corner c l);
          there = λ c t l o. h.taken c t l o ∙ (owner_of c l).0;
          corners = λ v t o. wrapped_placed _ nc (length s.verts) v (get_or s.cells t []) (h.placed t) o;
          owners = λ c l. (owner_of c l).0;
        },
        record {
          vertices = omega (arith, h.grown.longer, h.twos, new_le x.steps);
          added = omega (arith, h.grown.longer, h.added);
          steps = omega (arith, h.steps);
          entries = omega (arith, h.threes, h.struck, occ_length EMPTY s.owners, h.four);
          region = λ t l. h.region t (omega (arith, h.width));
          placed = λ t. all_turned (λ v. in_box b nc x.verts v ≡ true) nc 0 (λ v. in_box b nc s.verts v ≡ true) (length s.verts)
              (λ v e. in_grown b nc x.verts s.verts h.more v (omega arith) h.grown ∙ e) (get_or s.cells t []) (h.placed t);
        },
      )

  pub built : Gives Good (build (mesh sites tri he hull) b)
  unfolding build
  built =
      let nc = length tri / 3 in
      gives_then (λ (vs : List Point). length vs ≡ 0 + nc) Good (centers_from sites tri 0 nc []) _ (centers_from_lem sites tri 0 nc [])
      (λ cs lc.
      let lv : length (cs ++ corners_of b) ≡ nc + 4 = length-append cs (corners_of b) ∙ omega (arith, four_corners) in
      gives_then (Extended nc (length hull) (extensions (cs ++ corners_of b) [] [])) Good (extend_from sites tri hull table nc 0 (length hull) (extensions (cs ++ corners_of b) [] [])) _
      (extend_from_lem sites tri hull table nc 0 (length hull) (extensions (cs ++ corners_of b) [] []) (omega arith) (λ i l. absurd (omega arith)))
      (λ x e. gives_then (CellsSoFar b nc (site_count sites) (share_of tri hull) x.verts found x.steps) Good (clip_all b nc tri he hull table (site_count sites) found x) _
      (clip_all_lem (topology a) (omega (arith, a.counts.few_sites)) b nc found x (omega (arith, e.grown.longer)) four_found)
      (λ s h. finish x (omega (arith, e.grown.longer, e.added)) (e.taken ∙ omega arith) s h)))
