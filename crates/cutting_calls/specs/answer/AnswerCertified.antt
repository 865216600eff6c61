-- Theorem: where the cutting answers 0 a certificate of its pieces finds none of the first three faults, on the promise of the cutting alone, whatever the mesh: no corner is outside
-- (`never_outside`), no side that is not along an edge comes more often than the same side back (`never_surplus`), and the top right corner of the box is left once more than it is reached along the
-- top (`never_border`). So the certificate is that of its last two stages (`cut_certificate`): kind 0, 4 or 5 (`cut_kinds`). And without a certificate: at every place of the box the windings of all
-- pieces add up to exactly 1 (`cut_covered`). The certificate is asked of the first offsets, one more than there are sites.
use Rattle.std.specs.Prelude.{◌≡◌, Bool, ◌⊎◌, Float, Ok, Err, length, get_or, take}
use Rattle.std.proofs.Math.Path.{refl, sym, ap}
use Rattle.std.proofs.Common.{◌∙◌}
use Rattle.std.proofs.Math.Bool.{true, false}
use mathlib.Core.List.{List, [], ◌∷◌, map}
use Rattle.std.proofs.Math.Logic.{inl, inr}
use Prim.Native.Nat.{ℕ, zero, suc, ◌+◌, ◌-◌, ◌≤◌, ◌<◌}
use native.Mathlib.Omega.{arith}
use borrow.Author.Tests.{eq-eqb, le-ltb}
use Rattle.std.proofs.Math.Seq.{get_or-take}
use Rattle.base.specs.common.Pick.{pick}
use Rattle.base.specs.common.laws.Count.{sum_same}
use Rattle.ring_area.specs.lowest.Lowest.{lowest, any_below}
use Rattle.ring_area.specs.lowest.laws.Loops.{none_below}
use Rattle.plane.specs.points.Flat.{point_at}
use Rattle.plane.specs.declared.points.Point.{Point}
use Rattle.plane.specs.sides.Sides.{inside_of}
use Rattle.plane.specs.boxes.Box.{corners_of}
use Rattle.plane.specs.declared.boxes.BoundingBox.{BoundingBox}
use Rattle.plane.specs.declared.given.Given.{Given}
use Rattle.mesh.specs.Accepted.{Mesh, site_count}
use Rattle.walks.specs.shared.Cells.{cell_of}
use Rattle.auditing.specs.corners.Outside.{outside_at, cell_outside, site_outside}
use Rattle.auditing.specs.nearer.Nearer.{site_nearer}
use Rattle.auditing.specs.places.Places.{same_of, has_twin}
use Rattle.cutting.specs.cuts.Numbers.{◌≈◌}
use Rattle.cutting.specs.cuts.Rings.{sum_by}
use Rattle.cutting.specs.cuts.Written.{round}
use Rattle.cutting.specs.sides.Area.{SideForm}
use Rattle.cutting.specs.sides.Inside.{AllInBox}
use Rattle.cutting_laws.specs.theorem.MeshPieces.{numbers_from}
use Rattle.cutting_laws.specs.fills.laws.Within.{EachInBox}
use Rattle.certifying.specs.cover.Sums.{WholePlace, OfSide, sum_all}
use Rattle.certifying.specs.cover.Cover.{comes_up, leaves}
use Rattle.certifying.specs.cover.Cover as cover
use Rattle.certifying.specs.cover.laws.Adding.{same_all}
use Rattle.certifying.specs.cover.Kinds as K
use Rattle.certifying.specs.cover.Kinds.{along_edge, sure}
use Rattle.certifying.specs.sides.Sides.{ends_of, side_count, one_for, how_many, runs_at, along_of, more_of, surplus_of, surplus_at, leaves_of, left_once}
use Rattle.certifying.specs.call.Verdict.{certify_far, certify_kind, certify_on, side_stage, border_stage, near_stage, certify_nearer, certify_twin, twin_stage}
use Rattle.certifying.specs.declared.call.CertifyFault.{CertifyFault}
use Rattle.certifying.specs.truth.Places.{vertex_place, edge_place, rings_from, all_pieces}
use Rattle.certifying.specs.truth.laws.Cancelling.{and_comm, along_back}
use Rattle.certifying.specs.truth.laws.Flat.{flat_sum}
use Rattle.cutting_calls.specs.cut_admission.CutSlices.{CutSlices}
use Rattle.cutting_calls.specs.call.Promise.{CutAnswer}
use Rattle.cutting_calls.specs.call.Steps.{InOrder}
use Rattle.cutting_calls.specs.answer.AnswerWhole as answered
use Rattle.cutting_calls.specs.answer.laws.Counting.{net_count, cells_sum}
use Rattle.cutting_calls.specs.answer.laws.Corner.{leaves_by, corner_form, box_once}
use Rattle.cutting_calls.specs.answer.laws.Lifted.{by_places, off_form, off_box, lifted_right, lifted_top, lifted_corner}
use Rattle.cutting_calls.specs.answer.laws.Lying.{runs_by, run_form, runs_box, float_right, float_top, leaves_by_lem, float_corner}

-- a vertex number as a place, so that sides of numbers are sides of places
abbrev number_place : ℕ → WholePlace
number_place e = record { x = e; y = 0 }

module _ (m : Mesh) (g : Given) (order : InOrder g) (old new : CutSlices) (count : ℕ) (answer : CutAnswer m g old new 0 count) where
  abbrev n : ℕ
  n = site_count m.sites

  abbrev b : BoundingBox
  b = g.bounds

  abbrev v : List Float
  v = new.vertices

  abbrev ix : List ℕ
  ix = new.indexes

  -- the offsets of the pieces
  abbrev pub piece_offsets : List ℕ
  piece_offsets = take (n + 1) new.offsets

  abbrev off : List ℕ
  off = piece_offsets

  short : length off - 1 ≡ n
  short = omega (arith, answered.offsets_long m g order old new count answer)

  -- the cells by these offsets are the pieces
  abbrev cell_places : List ℕ → ℕ → List Point
  cell_places o s = map (point_at v) (cell_of o ix s)

  cell_same : (s : ℕ) → s < n → cell_of off ix s ≡ cell_of new.offsets ix s
  unfolding cell_of
  cell_same s h = rw (get_or-take (n + 1) new.offsets s 0 (omega arith), get_or-take (n + 1) new.offsets (s + 1) 0 (omega arith)) refl

  cells_same : (j k : ℕ) → j + k ≤ n → map (cell_places off) (numbers_from j k) ≡ map (cell_places new.offsets) (numbers_from j k)
  cells_same j zero h = refl
  cells_same j (suc k) h = λ i. map (point_at v) (cell_same j (omega arith) i) ∷ cells_same (suc j) k (omega arith) i

  sums : (f : SideForm b) → sum_by (round f.of) (map (cell_places off) (numbers_from 0 n)) ≈ round f.of (corners_of b)
  sums f = rw (cells_same 0 n (omega arith)) (answered.forms m g order old new count answer f)

  -- what is netCount over all rings, less what is netCount back, is that round the box
  totals : (h : Point → Point → ℕ) (at : ℕ → WholePlace) (f : OfSide) → ((a d : ℕ) → f (at a) (at d) ≡ h (point_at v a) (point_at v d))
      → sum_by (round (net_count h)) (map (cell_places off) (numbers_from 0 n)) ≈ round (net_count h) (corners_of b)
      → sum_all f (rings_from at off ix 0 (length off - 1)) + (round (net_count h) (corners_of b)).minus
      ≡ (round (net_count h) (corners_of b)).plus + sum_all (λ d e. f e d) (rings_from at off ix 0 (length off - 1))
  totals h at f agree e = rw short (let s = cells_sum h v at f agree off ix 0 n in omega (arith, e, s.0, s.1))

  -- ---- the windings
  module _ (c : ℕ) where
    abbrev along : WholePlace → WholePlace → Bool
    along = along_edge (edge_place c b.left) (edge_place c b.top) (edge_place c b.right) (edge_place c b.bottom)

    abbrev leaving : OfSide
    leaving = leaves (edge_place c b.left) (edge_place c b.top) (edge_place c b.right) (edge_place c b.bottom)

    cancelled : (f : OfSide) → sum_all (K.off along f) (all_pieces c v off ix) ≡ sum_all (K.off along (λ p q. f q p)) (all_pieces c v off ix)
    cancelled f =
        plain _ _ _ _ (totals (by_places c (K.off along f)) (vertex_place c v) (K.off along f) (λ a d. refl) (sums (off_form c b f))) (off_box c b f)
        ∙ same_all (λ p q. K.off along f q p) (K.off along (λ p q. f q p)) (λ p q. ap (λ (t : Bool). pick t (λ _. 0) (λ _. f q p)) (both_ways p q)) (all_pieces c v off ix)
      where
        both_ways : (p q : WholePlace) → along q p ≡ along p q
        both_ways p q = along_back (edge_place c b.left) (edge_place c b.top) (edge_place c b.right) (edge_place c b.bottom) q p

        plain : (x y m k : ℕ) → x + m ≡ k + y → k + 0 ≡ 0 + m → x ≡ y
        plain x y m k e h = omega arith

    module _ (X Y : ℕ) (hl : edge_place c b.left ≤ X) (hr : X < edge_place c b.right) (ht : edge_place c b.top ≤ Y) (hb : Y < edge_place c b.bottom) where
      across : edge_place c b.left < edge_place c b.right
      across = between _ _ _ hl hr
        where
          between : (a x d : ℕ) → a ≤ x → x < d → a < d
          between a x d h k = omega arith

      down : edge_place c b.top < edge_place c b.bottom
      down = between _ _ _ ht hb
        where
          between : (a x d : ℕ) → a ≤ x → x < d → a < d
          between a x d h k = omega arith

      corner : sum_all leaving (all_pieces c v off ix) ≡ sum_all (λ p q. leaving q p) (all_pieces c v off ix) + 1
      unfolding leaves
      corner =
          plain _ _ _ _ (totals (leaves_by b (lifted_right c b) (lifted_top c b) (lifted_corner c b across down)) (vertex_place c v) leaving agree
          (sums (corner_form b (lifted_right c b) (lifted_top c b) (lifted_corner c b across down)))) (box_once b (lifted_right c b) (lifted_top c b) (lifted_corner c b across down))
        where
          agree : (a d : ℕ) → leaving (vertex_place c v a) (vertex_place c v d) ≡ leaves_by b (lifted_right c b) (lifted_top c b) (lifted_corner c b across down) (point_at v a) (point_at v d)
          agree a d = refl

          plain : (x y m k : ℕ) → x + m ≡ k + y → k + 0 ≡ 1 + m → x ≡ y + 1
          plain x y m k e h = omega arith

      pub cut_covered : sum_all (comes_up X Y) (all_pieces c v off ix) ≡ sum_all (λ p q. comes_up X Y q p) (all_pieces c v off ix) + 1
      cut_covered =
          cover.covered (edge_place c b.left) (edge_place c b.top) (edge_place c b.right) (edge_place c b.bottom) X Y across down hl hr ht hb along
          (sure (edge_place c b.left) (edge_place c b.top) (edge_place c b.right) (edge_place c b.bottom)) (all_pieces c v off ix) cancelled corner

  -- ---- kind 1
  in_ring : (cell : List ℕ) → AllInBox b (map (point_at v) cell) → (i : ℕ) → i < length cell → outside_at b v cell i ≡ false
  unfolding outside_at inside_of
  in_ring [] a i h = absurd (omega arith)
  in_ring (e ∷ r) a zero h = let w = a.0 in rw (w.from_left, w.to_right, w.from_top, w.to_bottom) refl
  in_ring (e ∷ r) a (suc i) h = in_ring r a.1 i (omega arith)

  in_cells : (j k : ℕ) → EachInBox b (map (cell_places new.offsets) (numbers_from j k)) → (s : ℕ) → s < k → AllInBox b (cell_places new.offsets (j + s))
  in_cells j zero a s h = absurd (omega arith)
  in_cells j (suc k) a zero h = let q : j + 0 ≡ j = omega arith in rw q a.0
  in_cells j (suc k) a (suc s) h = let q : j + suc s ≡ suc j + s = omega arith in rw q (in_cells (suc j) k a.1 s (omega arith))

  pub never_outside : (s : ℕ) → s < n → site_outside b v off ix s ≡ false
  unfolding cell_outside
  never_outside s h =
      let q : 0 + s ≡ s = omega arith in
      let held = rw q at (in_cells 0 n (answered.inside m g order old new count answer) s h) in
      rw (cell_same s h)
      (none_below (outside_at b v (cell_of new.offsets ix s)) (length (cell_of new.offsets ix s))
      (in_ring (cell_of new.offsets ix s) held))

  -- ---- kind 2
  abbrev ends : List ℕ
  ends = ends_of off ix

  module _ (p q : Point) (clear : along_of b p q ≡ false) where
    abbrev runs : OfSide
    runs d e = runs_by b p q clear (point_at v d.x) (point_at v e.x)

    as_often : how_many (runs_at v ix ends p q) (side_count off) ≡ how_many (runs_at v ix ends q p) (side_count off)
    unfolding runs_at
    as_often =
        sym (flat_sum number_place runs off ix (answered.cells m g order old new count answer))
        ∙ plain _ _ _ _ (totals (runs_by b p q clear) number_place runs (λ a d. refl) (sums (run_form b p q clear))) (runs_box b p q clear)
        ∙ flat_sum number_place (λ d e. runs e d) off ix (answered.cells m g order old new count answer)
        ∙ sum_same _ _ (side_count off) (λ k _. ap one_for (and_comm (same_of p (point_at v (get_or ends k 0))) (same_of q (point_at v (get_or ix k 0)))))
      where
        plain : (x y m k : ℕ) → x + m ≡ k + y → k + 0 ≡ 0 + m → x ≡ y
        plain x y m k e h = omega arith

  no_surplus : (p q : Point) → surplus_of b v ix ends (side_count off) p q ≡ false
  unfolding surplus_of more_of
  no_surplus p q = go (along_of b p q) refl
    where
      go : (t : Bool) → along_of b p q ≡ t → pick t (λ _. false) (λ _. more_of v ix ends (side_count off) p q) ≡ false
      go true e = refl
      go false e = le-ltb _ _ (least _ _ (as_often p q e))
        where
          least : (x y : ℕ) → x ≡ y → x ≤ y
          least x y h = omega arith

  pub never_surplus : (k : ℕ) → surplus_at b v ix (ends_of off ix) (side_count off) k ≡ false
  never_surplus k = no_surplus (point_at v (get_or ix k 0)) (point_at v (get_or ends k 0))

  -- ---- kind 3
  abbrev leaves_number : OfSide
  leaves_number d e = one_for (leaves_of b (point_at v d.x) (point_at v e.x))

  pub never_border : left_once b v ix (ends_of off ix) (side_count off) ≡ true
  unfolding left_once
  never_border =
      let tells = float_corner b (answered.ordered m g order old new count answer) in
      let t = totals (leaves_by b (float_right b) (float_top b) tells) number_place leaves_number (λ a d. leaves_by_lem b (point_at v a) (point_at v d)) (sums (corner_form b (float_right b) (float_top b) tells)) in
      eq-eqb _ _ (sym (flat_sum number_place leaves_number off ix (answered.cells m g order old new count answer))
      ∙ plain _ _ _ _ t (box_once b (float_right b) (float_top b) tells)
      ∙ ap (λ (k : ℕ). k + 1) (flat_sum number_place (λ d e. leaves_number e d) off ix (answered.cells m g order old new count answer)))
    where
      plain : (x y m k : ℕ) → x + m ≡ k + y → k + 0 ≡ 1 + m → x ≡ y + 1
      plain x y m k e h = omega arith

  -- ---- the certificate is that of its last two stages
  pub cut_certificate : (bits : ℕ) → certify_on b bits m.sites v piece_offsets ix ≡ near_stage (certify_far b bits) m.sites v piece_offsets ix
  unfolding certify_on side_stage border_stage
  cut_certificate bits =
      rw (
        none_below (site_outside b v off ix) n never_outside,
        none_below (surplus_at b v ix (ends_of off ix) (side_count off)) (side_count off) (λ k _. never_surplus k),
        never_border,
      ) refl

  near_kinds : (far : Float) → (certify_kind (near_stage far m.sites v off ix) ≡ 0) ⊎ (certify_kind (near_stage far m.sites v off ix) ≡ 4) ⊎ (certify_kind (near_stage far m.sites v off ix) ≡ 5)
  unfolding near_stage certify_nearer twin_stage
  near_kinds far =
      go (any_below (site_nearer far m.sites [] [] v off ix) n) (any_below (has_twin m.sites) n)
      (certify_nearer far m.sites v off ix (lowest (site_nearer far m.sites [] [] v off ix) n)) (certify_twin m.sites (lowest (has_twin m.sites) n)) refl refl
    where
      go : (t u : Bool) (nearer twin : CertifyFault) → certify_kind (Err nearer) ≡ 4 → certify_kind (Err twin) ≡ 5
          → (certify_kind (pick t (λ _. Err nearer) (λ _. pick u (λ _. Err twin) (λ _. Ok tt))) ≡ 0)
          ⊎ (certify_kind (pick t (λ _. Err nearer) (λ _. pick u (λ _. Err twin) (λ _. Ok tt))) ≡ 4)
          ⊎ (certify_kind (pick t (λ _. Err nearer) (λ _. pick u (λ _. Err twin) (λ _. Ok tt))) ≡ 5)
      go true u nearer twin e f = inr (inl e)
      go false true nearer twin e f = inr (inr f)
      go false false nearer twin e f = inl refl

  pub cut_kinds : (bits : ℕ) → (certify_kind (certify_on b bits m.sites v piece_offsets ix) ≡ 0) ⊎ (certify_kind (certify_on b bits m.sites v piece_offsets ix) ≡ 4)
      ⊎ (certify_kind (certify_on b bits m.sites v piece_offsets ix) ≡ 5)
  cut_kinds bits = rw (cut_certificate bits) (near_kinds (certify_far b bits))
