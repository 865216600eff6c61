-- Theorem: what voronoi_certify is for. After 0 and kind 0 the pieces are the true ones, on the exact values of the floats: a place is any pair of whole numbers of 2 ^ -1074 / c, for any
-- c above 0, moved up by 2 ^ 400. How often a piece goes round a place is how many of its sides come up over its height, right of it (`comes_up`), less how many go down.
-- `covered`: at every place of the box that is 1 for all pieces together, without a tolerance.
-- `owner`: a piece that goes round a place has a site that is nearest to it, but for the bound.
-- `owned`: every place of the box has a piece that goes round it more often than back, and whose site is nearest to it, but for the bound.
-- `certified`: a place of the box that is nearer to one site than to any other by more than the bound lies in the piece of that site, exactly once, and no other piece goes round it.
-- `at_home`: a site in the box that is farther from all others than the bound lies in its own piece, exactly once.
-- `whole`: the exact areas of all pieces add up to exactly the box's. A box that a call is given is in order where rule 3 holds (`size_ordered`, `edges_ordered` of cutting_calls).
-- The numbers of the lists and the box's edges are values of binary64, as those of a call are (`AllHeld`, `HeldEdges`; `size_held`, `edges_held` of audit_truth).
use Rattle.std.specs.Prelude.{◌≡◌, refl, List, ℕ, ◌+◌, ◌-◌, ◌*◌, ◌/◌, ◌≤◌, ◌<◌, Float, length, get_or}
use Rattle.root.specs.Root.{units}
use Rattle.plane.specs.points.Flat.{point_at}
use Rattle.plane.specs.given.Finite.{Fits}
use Rattle.plane.specs.declared.given.Given.{Given}
use Rattle.plane.specs.declared.boxes.BoundingBox.{BoundingBox}
use Rattle.walks.specs.shared.Cells.{cell_of}
use Rattle.audit_truth.specs.Held.{AllHeld, HeldEdges}
use Rattle.audit_truth.specs.Near.{WithinReach}
use Rattle.certifying.specs.cover.Sums.{WholePlace, sum_ring, sum_all}
use Rattle.certifying.specs.cover.Cover.{comes_up}
use Rattle.certifying.specs.cover.Squares.{squared}
use Rattle.certifying.specs.call.Verdict.{reach_of, certify_kind, certify_on}
use Rattle.certifying.specs.truth.Places.{edge_place, ring_places, all_pieces, site_place, bound_of}
use Rattle.certifying.specs.truth.CertificateTrue as T
use Rattle.certifying.specs.truth.CertificateTrue.{CertifyKept}
use Rattle.certifying.specs.truth.laws.OnAnswer.{answer_sound, answer_zero, answer_kept, answer_across, answer_down}
use Rattle.cutting_calls.specs.call.Steps.{InOrder}
use Rattle.voronoi.specs.Certificates.{Certify}

-- (X, Y) is a place of the box: its left and its top edge are of it
pub record InTheBox (c : ℕ) (b : BoundingBox) (X Y : ℕ) : Type 0 where
  pub left : edge_place c b.left ≤ X
  pub right : X < edge_place c b.right
  pub top : edge_place c b.top ≤ Y
  pub bottom : Y < edge_place c b.bottom

-- r is at least the reach, and the distance along an axis from each corner to each site
pub record Reaches (b : BoundingBox) (sites v : List Float) (off ix : List ℕ) (r : ℕ) : Type 0 where
  pub box : units (reach_of b) ≤ r
  pub each : (s i o : ℕ) → s < length sites / 2 → i < length (cell_of off ix s) → o < length sites / 2 → WithinReach r (point_at v (get_or (cell_of off ix s) i 0)) (point_at sites o)

-- how often the sides of a piece come up over the height of (X, Y), right of it, and how often they go down
abbrev pub ups : ℕ → ℕ → List WholePlace → ℕ
ups X Y piece = sum_ring (comes_up X Y) piece

abbrev pub downs : ℕ → ℕ → List WholePlace → ℕ
downs X Y piece = sum_ring (λ p q. comes_up X Y q p) piece

-- the squared distance from (X, Y) to site s
abbrev pub square_from : ℕ → List Float → ℕ → ℕ → ℕ → ℕ
square_from c sites X Y s = squared (record { x = X; y = Y }) (site_place c sites s)

module _ {g : Given} {sites v : List Float} {off ix : List ℕ} {bits : ℕ} {old new : List ℕ} {site vertex other : ℕ} (answer : Certify g sites v off ix bits old new 0 0 site vertex other)
    (given : Fits g) (edges : HeldEdges g.bounds) (sites_held : AllHeld sites) (corners_held : AllHeld v) (c : ℕ) (pos : 0 < c) where
  kept : CertifyKept g.bounds bits sites v off ix
  kept = answer_kept answer given edges sites_held corners_held

  none : certify_kind (certify_on g.bounds bits sites v off ix) ≡ 0
  none = answer_zero answer refl

  -- ---- a place of the box
  module _ (X Y : ℕ) (p : InTheBox c g.bounds X Y) where
    pub covered : sum_all (comes_up X Y) (all_pieces c v off ix) ≡ sum_all (λ p q. comes_up X Y q p) (all_pieces c v off ix) + 1
    covered = T.covered g.bounds bits sites v off ix kept none c pos X Y p.left p.right p.top p.bottom

    module _ (r : ℕ) (far : Reaches g.bounds sites v off ix r) where
      pub owner : (s o : ℕ) → s < length sites / 2 → o < length sites / 2 → (ups X Y (ring_places c v off ix s) ≡ downs X Y (ring_places c v off ix s) → ⊥)
          → square_from c sites X Y s ≤ square_from c sites X Y o + bound_of c g.bounds bits r sites s o
      owner = T.owner g.bounds bits sites v off ix kept none c pos X Y p.left p.right p.top p.bottom r far.box far.each

      pub owned : (s : ℕ) × (s < length sites / 2) × (downs X Y (ring_places c v off ix s) < ups X Y (ring_places c v off ix s))
          × ((o : ℕ) → o < length sites / 2 → square_from c sites X Y s ≤ square_from c sites X Y o + bound_of c g.bounds bits r sites s o)
      owned = T.owned g.bounds bits sites v off ix kept none c pos X Y p.left p.right p.top p.bottom r far.box far.each

      -- every other site is farther, by more than the bound
      pub certified : (s : ℕ) → s < length sites / 2
          → ((o : ℕ) → o < length sites / 2 → (o ≡ s → ⊥) → square_from c sites X Y s + bound_of c g.bounds bits r sites o s < square_from c sites X Y o)
          → (ups X Y (ring_places c v off ix s) ≡ downs X Y (ring_places c v off ix s) + 1)
          × ((o : ℕ) → o < length sites / 2 → (o ≡ s → ⊥) → ups X Y (ring_places c v off ix o) ≡ downs X Y (ring_places c v off ix o))
      certified = T.certified g.bounds bits sites v off ix kept none c pos X Y p.left p.right p.top p.bottom r far.box far.each

  -- ---- a site in the box
  pub at_home : (r : ℕ) → Reaches g.bounds sites v off ix r → (s : ℕ) → s < length sites / 2 → InTheBox c g.bounds (site_place c sites s).x (site_place c sites s).y
      → ((o : ℕ) → o < length sites / 2 → (o ≡ s → ⊥) → bound_of c g.bounds bits r sites o s < squared (site_place c sites s) (site_place c sites o))
      → ups (site_place c sites s).x (site_place c sites s).y (ring_places c v off ix s) ≡ downs (site_place c sites s).x (site_place c sites s).y (ring_places c v off ix s) + 1
  at_home r far s own p = T.at_home g.bounds bits sites v off ix kept none c pos r far.box far.each s own p.left p.right p.top p.bottom

  -- ---- the areas: a side from p to q adds p's y times q's x and takes off p's x times q's y
  pub whole : InOrder g → sum_all (λ p q. p.y * q.x) (all_pieces c v off ix) ≡ sum_all (λ p q. q.y * p.x) (all_pieces c v off ix)
      + 2 * ((edge_place c g.bounds.right - edge_place c g.bounds.left) * (edge_place c g.bounds.bottom - edge_place c g.bounds.top))
  whole ordered =
      let o = ordered (answer_sound answer) in
      T.whole g.bounds bits sites v off ix kept none c pos (answer_across answer given edges sites_held corners_held c pos o.across)
      (answer_down answer given edges sites_held corners_held c pos o.down)
