-- Theorem: after kind 0 of a certificate the pieces are the true ones. A place is any pair of whole numbers of 2 ^ -1074 / c, for any c. How often a piece goes round it is how many of
-- its sides come up over its height, right of it, less how many come down.
-- `covered`: at every place of the box that is 1 for all pieces together, without a tolerance.
-- `owner`: a piece that goes round a place has a site that is nearest to it, but for the bound.
-- `owned`: every place of the box has a piece that goes round it more often than back, and whose site is nearest to it, but for the bound.
-- `certified`: a place of the box that is nearer to one site than to any other by more than the bound lies in the piece of that site, exactly once, and no other piece goes round it.
-- `at_home`: a site in the box that is farther from all others than the bound lies in its own piece, exactly once.
-- `whole`: the exact areas of all pieces add up to exactly the box's.
-- Laps, folds, gaps, overlaps, exchanged pieces and missing sites are excluded at once. The bound is that of one corner: nothing adds up over pieces.
use Rattle.std.specs.Prelude.{◌≡◌, refl, Bool, false, ℕ, suc, ◌+◌, ◌-◌, ◌*◌, ◌/◌, ◌≤◌, ◌<◌, Float, length, get_or}
use Rattle.std.proofs.Common.{sym, ap, ◌∙◌, ⊎_elim, arith, get_or-take, length-take-le}
use Rattle.std.proofs.Math.Bool.{true}
use mathlib.Core.List.{List, [], ◌∷◌}
use Prim.{tt}
use Rattle.std.proofs.Math.ListN.{get_or-eq_default}
use Rattle.base.specs.common.laws.Decide.{lt_or_ge}
use Rattle.ring_area.specs.lowest.laws.Loops.{none_taken}
use Rattle.root.specs.Root.{units}
use Rattle.plane.specs.points.Flat.{point_at}
use Rattle.plane.specs.declared.boxes.BoundingBox.{BoundingBox}
use Rattle.walks.specs.shared.Cells.{cell_of}
use Rattle.plane.specs.centers.Circumcenter.{ok_center}
use Rattle.plane.specs.centers.Finite.{center_bounded}
use Rattle.areas.specs.Steps.{RingsKept}
use Rattle.areas.specs.laws.Entries.{cell_corners}
use Rattle.certifying.specs.cover.Sums.{WholePlace, OfSide, sum_ring, sum_all, EveryCorner}
use Rattle.certifying.specs.cover.Cover.{comes_up}
use Rattle.certifying.specs.cover.Cover as cover
use Rattle.certifying.specs.cover.Certified as C
use Rattle.certifying.specs.cover.Certified.{Near}
use Rattle.certifying.specs.cover.Kinds.{along_edge, sure, sides_cancel}
use Rattle.certifying.specs.cover.Kinds as K
use Rattle.certifying.specs.cover.Squares.{square_apart, squared, from_near}
use Rattle.certifying.specs.cover.Whole as W
use Rattle.auditing.specs.nearer.Nearer.{beyond, beyond_at, nearer_at, corner_nearer, cell_nearer, site_nearer, held_count, other_at, no_lists}
use Rattle.audit_truth.specs.Held.{HeldPoint, HeldBox, AllHeld}
use Rattle.audit_truth.specs.Near.{WithinReach}
use Rattle.certifying.specs.sides.Sides.{ends_of, side_count}
use Rattle.certifying.specs.call.Verdict.{reach_of, certify_far, certify_kind, certify_on}
use Rattle.certifying.specs.call.Sound.{no_surplus, corner_once, corners_nearest}
use Rattle.certifying.specs.truth.Places.{vertex_place, edge_place, ring_places, all_pieces, site_place, bound_of}
use Rattle.certifying.specs.truth.laws.Cancelling as cancelling
use Rattle.certifying.specs.truth.laws.Cancelling.{HeldSides}
use Rattle.certifying.specs.truth.laws.Flat.{ring_at, rings_long, every_corner}
use Rattle.certifying.specs.truth.laws.Leaving.{corner_left, ends_have}
use Rattle.certifying.specs.truth.laws.Nearest.{near_place}

-- what the rules ask, and what each number of a lent slice is: a value of binary64
pub record CertifyKept (b : BoundingBox) (bits : ℕ) (sites v : List Float) (off ix : List ℕ) : Type 0 where
  pub box : HeldBox b
  pub fine : bits ≤ 52
  pub many : length off ≡ length sites / 2 + 1
  pub rings : RingsKept v off ix
  pub sites_held : (s : ℕ) → s < length sites / 2 → HeldPoint (point_at sites s)
  pub corners_held : AllHeld v

-- a sum over all rings that is above another is so of some ring
some_more : (f g : OfSide) (rs : List (List WholePlace)) → sum_all g rs < sum_all f rs → (s : ℕ) × (s < length rs) × (sum_ring g (get_or rs s []) < sum_ring f (get_or rs s []))
unfolding sum_all
some_more f g [] h = absurd (omega arith)
some_more f g (r ∷ rs) h =
    ⊎_elim (λ k. (0, omega arith, k)) (λ k. let u = some_more f g rs (rest _ _ _ _ h k) in (suc u.0, omega (arith, u.1), u.2)) (lt_or_ge (sum_ring g r) (sum_ring f r))
  where
    rest : (a b x y : ℕ) → a + x < b + y → b ≤ a → x < y
    rest a b x y h k = omega arith

module _ (b : BoundingBox) (bits : ℕ) (sites v : List Float) (off ix : List ℕ) (kept : CertifyKept b bits sites v off ix) (zero_kind : certify_kind (certify_on b bits sites v off ix) ≡ 0)
    (c : ℕ) (pos : 0 < c) where
  -- ---- the box and the pieces on whole numbers
  abbrev pub left_at : ℕ
  left_at = edge_place c b.left

  abbrev pub top_at : ℕ
  top_at = edge_place c b.top

  abbrev pub right_at : ℕ
  right_at = edge_place c b.right

  abbrev pub bottom_at : ℕ
  bottom_at = edge_place c b.bottom

  abbrev pub piece_at : ℕ → List WholePlace
  piece_at = ring_places c v off ix

  abbrev pub pieces : List (List WholePlace)
  pieces = all_pieces c v off ix

  abbrev pub site_at : ℕ → WholePlace
  site_at = site_place c sites

  abbrev along : WholePlace → WholePlace → Bool
  along = along_edge left_at top_at right_at bottom_at

  -- ---- what is held
  corner_held : (s : ℕ) → s + 1 < length off → (i : ℕ) → i < length (cell_of off ix s) → HeldPoint (point_at v (get_or (cell_of off ix s) i 0))
  corner_held s h i g =
      let p = (cell_corners kept.rings s h).bounded i g in
      record { x = record { held = kept.corners_held _; bounded = p.x }; y = record { held = kept.corners_held _; bounded = p.y } }

  start_held : (k : ℕ) → k < side_count off → HeldPoint (point_at v (get_or ix k 0))
  start_held k h =
      let whole = length-take-le (side_count off) ix (kept.rings.cut.within (length off - 1) (omega (arith, kept.rings.cut.some))) in
      let q = get_or-take (side_count off) ix k 0 h in
      let p = center_bounded (point_at v (get_or ix k 0)) (ap (λ (e : ℕ). ok_center (point_at v e)) (sym q) ∙ kept.rings.kept.each k (omega (arith, whole))) in
      record { x = record { held = kept.corners_held _; bounded = p.x }; y = record { held = kept.corners_held _; bounded = p.y } }

  held : HeldSides v ix (ends_of off ix) (side_count off)
  held = record { starts = start_held; ends = ends_have (λ e. HeldPoint (point_at v e)) off ix kept.rings.cut corner_held }

  -- ---- kinds 2 and 3
  cancelled : (f : OfSide) → sum_all (K.off along f) pieces ≡ sum_all (K.off along (λ p q. f q p)) pieces
  cancelled =
      sides_cancel along pieces (cancelling.no_surplus c pos b kept.box v off ix kept.rings.cut held (no_surplus b bits sites v off ix zero_kind))

  corner : sum_all (cover.leaves left_at top_at right_at bottom_at) pieces ≡ sum_all (λ p q. cover.leaves left_at top_at right_at bottom_at q p) pieces + 1
  corner = corner_left c pos b kept.box v off ix kept.rings.cut held (corner_once b bits sites v off ix zero_kind)

  long : length pieces ≡ length sites / 2
  long = rings_long (vertex_place c v) off ix (length off - 1) 0 ∙ plain _ _ kept.many
    where
      plain : (m n : ℕ) → m ≡ n + 1 → m - 1 ≡ n
      plain m n e = omega arith

  piece_is : (s : ℕ) → s < length sites / 2 → get_or pieces s [] ≡ piece_at s
  piece_is s h = ring_at (vertex_place c v) off ix (length off - 1) s (omega (arith, kept.many))

  -- ---- a place of the box
  module _ (X Y : ℕ) (hl : left_at ≤ X) (hr : X < right_at) (ht : top_at ≤ Y) (hb : Y < bottom_at) where
    across : left_at < right_at
    across = between _ _ _ hl hr
      where
        between : (a x b : ℕ) → a ≤ x → x < b → a < b
        between a x b h g = omega arith

    down : top_at < bottom_at
    down = between _ _ _ ht hb
      where
        between : (a x b : ℕ) → a ≤ x → x < b → a < b
        between a x b h g = omega arith

    pub covered : sum_all (comes_up X Y) pieces ≡ sum_all (λ p q. comes_up X Y q p) pieces + 1
    covered = cover.covered left_at top_at right_at bottom_at X Y across down hl hr ht hb along (sure left_at top_at right_at bottom_at) pieces cancelled corner

    abbrev pub here : WholePlace
    here = record { x = X; y = Y }

    -- r is at least the reach, and the distance along an axis from each corner to each site
    module _ (r : ℕ) (wide : units (reach_of b) ≤ r)
        (within : (s i o : ℕ) → s < length sites / 2 → i < length (cell_of off ix s) → o < length sites / 2 → WithinReach r (point_at v (get_or (cell_of off ix s) i 0)) (point_at sites o)) where
      abbrev pub bound : ℕ → ℕ → ℕ
      bound = bound_of c b bits r sites

      -- kind 4 of a corner
      not_beyond : (s i o : ℕ) → s < length sites / 2 → i < length (cell_of off ix s) → o < length sites / 2
          → beyond (certify_far b bits) (point_at v (get_or (cell_of off ix s) i 0)) (point_at sites s) (point_at sites o) ≡ false
      unfolding site_nearer cell_nearer corner_nearer nearer_at beyond_at no_lists other_at held_count
      not_beyond s i o hs hi ho =
          none_taken (λ j. beyond (certify_far b bits) (point_at v (get_or (cell_of off ix s) i 0)) (point_at sites s) (point_at sites j)) (length sites / 2)
          (none_taken (corner_nearer (certify_far b bits) sites s (cell_of [] [] s) true v (cell_of off ix s)) (length (cell_of off ix s)) (corners_nearest b bits sites v off ix zero_kind s hs) i hi) o ho

      near : (s o : ℕ) → o < length pieces → EveryCorner (Near (site_at s) (site_at o) (bound s o)) (get_or pieces s [])
      near s o ho = ⊎_elim own none (lt_or_ge s (length sites / 2))
        where
          own : s < length sites / 2 → EveryCorner (Near (site_at s) (site_at o) (bound s o)) (get_or pieces s [])
          own hs =
              let o-own : o < length sites / 2 = omega (arith, long) in
              rw (piece_is s hs) (every_corner (vertex_place c v) (Near (site_at s) (site_at o) (bound s o)) (cell_of off ix s)
              (λ i hi. near_place c b kept.box bits kept.fine (point_at v (get_or (cell_of off ix s) i 0)) (point_at sites s) (point_at sites o)
              (corner_held s (omega (arith, kept.many)) i hi) (kept.sites_held s hs) (kept.sites_held o o-own) r wide (within s i s hs hi hs) (within s i o hs hi o-own)
              (not_beyond s i o hs hi o-own)))

          none : length sites / 2 ≤ s → EveryCorner (Near (site_at s) (site_at o) (bound s o)) (get_or pieces s [])
          none h = let q : get_or pieces s [] ≡ [] = get_or-eq_default pieces [] {n = s} (omega (arith, long)) in rw q tt

      sound : C.SoundRings left_at top_at right_at bottom_at X Y across down hl hr ht hb along (sure left_at top_at right_at bottom_at) site_at bound pieces
      sound = record { cancelled = cancelled; corner = corner; near = near }

      pub owner : (s o : ℕ) → s < length sites / 2 → o < length sites / 2 → (sum_ring (comes_up X Y) (piece_at s) ≡ sum_ring (λ p q. comes_up X Y q p) (piece_at s) → ⊥)
          → squared here (site_at s) ≤ squared here (site_at o) + bound s o
      owner s o hs ho n =
          from_near (site_at s) (site_at o) (bound s o) here
          (C.owner left_at top_at right_at bottom_at X Y across down hl hr ht hb along (sure left_at top_at right_at bottom_at) site_at bound pieces sound s o (omega (arith, long)) (rw (piece_is s hs) n))

      pub owned : (s : ℕ) × (s < length sites / 2) × (sum_ring (λ p q. comes_up X Y q p) (piece_at s) < sum_ring (comes_up X Y) (piece_at s))
          × ((o : ℕ) → o < length sites / 2 → squared here (site_at s) ≤ squared here (site_at o) + bound s o)
      owned =
          let u = some_more (comes_up X Y) (λ p q. comes_up X Y q p) pieces (above _ _ covered) in
          let hs : u.0 < length sites / 2 = omega (arith, long, u.1) in
          let more = rw (piece_is u.0 hs) at u.2 in
          (u.0, hs, more, λ o ho. owner u.0 o hs ho (apart _ _ more))
        where
          above : (x y : ℕ) → x ≡ y + 1 → y < x
          above x y e = omega arith

          apart : (x y : ℕ) → x < y → y ≡ x → ⊥
          apart x y h e = omega arith

      -- every other site is farther, by more than the bound
      module _ (s : ℕ) (own : s < length sites / 2) (clear : (o : ℕ) → o < length sites / 2 → (o ≡ s → ⊥) → squared here (site_at s) + bound o s < squared here (site_at o)) where
        clear_here : (o : ℕ) → o < length pieces → (o ≡ s → ⊥) → Near (site_at o) (site_at s) (bound o s) here → ⊥
        clear_here o h n m = over _ _ (clear o (omega (arith, long)) n) (from_near (site_at o) (site_at s) (bound o s) here m)
          where
            over : (x y : ℕ) → x < y → y ≤ x → ⊥
            over x y h g = omega arith

        pub certified : (sum_ring (comes_up X Y) (piece_at s) ≡ sum_ring (λ p q. comes_up X Y q p) (piece_at s) + 1)
            × ((o : ℕ) → o < length sites / 2 → (o ≡ s → ⊥) → sum_ring (comes_up X Y) (piece_at o) ≡ sum_ring (λ p q. comes_up X Y q p) (piece_at o))
        certified = (
          rw (piece_is s own) at (C.certified left_at top_at right_at bottom_at X Y across down hl hr ht hb along (sure left_at top_at right_at bottom_at) site_at bound pieces sound s
              (omega (arith, long)) clear_here),
          λ o h n. rw (piece_is o h) at
              (C.other_pieces left_at top_at right_at bottom_at X Y across down hl hr ht hb along (sure left_at top_at right_at bottom_at) site_at bound pieces sound s (omega (arith, long)) clear_here o n),
        )

  -- ---- a site in the box
  pub at_home : (r : ℕ) → units (reach_of b) ≤ r
      → ((s i o : ℕ) → s < length sites / 2 → i < length (cell_of off ix s) → o < length sites / 2 → WithinReach r (point_at v (get_or (cell_of off ix s) i 0)) (point_at sites o))
      → (s : ℕ) → s < length sites / 2 → left_at ≤ (site_at s).x → (site_at s).x < right_at → top_at ≤ (site_at s).y → (site_at s).y < bottom_at
      → ((o : ℕ) → o < length sites / 2 → (o ≡ s → ⊥) → bound_of c b bits r sites o s < squared (site_at s) (site_at o))
      → sum_ring (comes_up (site_at s).x (site_at s).y) (piece_at s) ≡ sum_ring (λ p q. comes_up (site_at s).x (site_at s).y q p) (piece_at s) + 1
  at_home r wide within s own hl hr ht hb clear =
      (certified (site_at s).x (site_at s).y hl hr ht hb r wide within s own (λ o h n. there _ _ _ (none (site_at s).x (site_at s).y) (clear o h n))).0
    where
      none : (x y : ℕ) → square_apart x x + square_apart y y ≡ 0
      none x y = rw (gone x, gone y) refl
        where
          gone : (x : ℕ) → x - x ≡ 0
          gone x = omega arith

      there : (z m n : ℕ) → z ≡ 0 → m < n → z + m < n
      there z m n e h = omega arith

  -- ---- the areas: a side from p to q adds p's y times q's x and takes off p's x times q's y
  pub whole : left_at < right_at → top_at < bottom_at → sum_all (λ p q. p.y * q.x) pieces ≡ sum_all (λ p q. q.y * p.x) pieces + 2 * ((right_at - left_at) * (bottom_at - top_at))
  whole h g =
      moved left_at top_at right_at bottom_at (right_at - left_at) (bottom_at - top_at) (over _ _ h) (over _ _ g) (left _ _ h) (left _ _ g) pieces cancelled corner
    where
      over : (l r : ℕ) → l < r → r ≡ l + (r - l)
      over l r h = omega arith

      left : (l r : ℕ) → l < r → 0 < r - l
      left l r h = omega arith

      moved : (l t r b w h : ℕ) → r ≡ l + w → b ≡ t + h → 0 < w → 0 < h → (rs : List (List WholePlace))
          → ((f : OfSide) → sum_all (K.off (along_edge l t r b) f) rs ≡ sum_all (K.off (along_edge l t r b) (λ p q. f q p)) rs)
          → sum_all (cover.leaves l t r b) rs ≡ sum_all (λ p q. cover.leaves l t r b q p) rs + 1
          → sum_all (λ p q. p.y * q.x) rs ≡ sum_all (λ p q. q.y * p.x) rs + 2 * (w * h)
      moved l t r b w h e f wide high rs = rw (e, f) (λ m n. W.whole l t w h wide high (along_edge l t (l + w) (t + h)) (sure l t (l + w) (t + h)) rs m n)
