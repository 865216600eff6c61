-- A site's ring, cut: no corner of it is at infinity, each has a circumcenter's number or none, and its entries and fresh corners are bound by the names of its edges (`RingBound`, `ring_bound`).
use Rattle.std.specs.Prelude.{◌≡◌, refl, Bool, cond, List, [], ◌∷◌, ◌++◌, map, ℕ, ◌*◌, ◌/◌, ◌≤◌, ◌<◌, ltb, Float, length, get_or}
use Rattle.std.proofs.Math.Path.{subst}
use Rattle.std.proofs.Math.Bool.{true, false}
use Rattle.std.proofs.Common.{inl, inr, ⊎_elim, arith, ne_eqb}
use Rattle.base.specs.common.Pick.{pick}
use Rattle.base.specs.common.Count.{occ}
use Rattle.base.specs.common.laws.Count.{same_cases}
use Rattle.base.specs.numbers.Numbers.{EMPTY}
use Rattle.plane.specs.points.Flat.{point_at}
use Rattle.plane.specs.declared.boxes.BoundingBox.{BoundingBox}
use Rattle.mesh.specs.Mesh.{next_of, whole_of, leftmost_of}
use Rattle.mesh.specs.Accepted.{Topology}
use Rattle.mesh.specs.laws.Facts.{walk_only}
use Rattle.cutting.specs.cuts.Corners.{AllCorners, cut_corners}
use Rattle.cutting.specs.cuts.Rings.{RingEdge, ring_edges}
use Rattle.cutting.specs.cuts.Cut.{cut_by}
use Rattle.cutting.specs.cuts.Edges.{AllEdges}
use Rattle.cutting.specs.rings.Names.{on_hull}
use Rattle.cutting.specs.rings.Counts.{site_names}
use Rattle.cutting.specs.corner.Corner.{upper_end, corner_of, Crossings, meet_of, side_of}
use Rattle.cutting.specs.declared.corner.SideName.{SideName}
use Rattle.cutting.specs.declared.corner.SideName.TheVariants.{Left, Top, Right, Bottom}
use Rattle.cutting.specs.declared.corner.Corner.{Corner}
use Rattle.cutting.specs.declared.corner.Carrier.{Carrier}
use Rattle.cutting.specs.declared.corner.Carrier.TheVariants.{Bisector, Along, Infinity}
use Rattle.cutting.specs.sides.Kept.{Ordered, NotLeft, DownOrRight, Downward, HasDirection, FitsCarrier}
use Rattle.cutting.specs.sides.Inside.{AimedEdge, AllNear, pieces_near}
use Rattle.cutting.specs.meet.Crossing.{crossings_of}
use Rattle.cutting.specs.meet.Meets.{crossings_between}
use Rattle.cutting.specs.whole.Whole.{bisector_of, ring_fits, ring_aimed}
use Rattle.cutting.specs.border.Border.{toward_of, hull_end, border_number}
use Rattle.cutting_writer.specs.stream.Stages.{Ring, cut_four}
use Rattle.cutting_writer.specs.site.Ring.{out_at, ray_of, far_of, last_or, site_ring}
use Rattle.cutting_laws.specs.theorem.MeshPieces.{numbers_from, mesh_edge, mesh_ring}
use Rattle.cutting_laws.specs.theorem.laws.InTurn.{each_once, each_below}
use Rattle.cutting_laws.specs.theorem.laws.NumberNone.{all_directed}
use Rattle.cutting_laws.specs.ringed.Walked.{site_ring_lem}
use Rattle.cutting.specs.rooms.laws.Fresh.{fresh_in, bisected_in, chain_begun, chain_fresh, ring_chained, cut_bisected}
use Rattle.cutting.specs.rooms.laws.Rings.{bisectors}
use Rattle.cutting.specs.rooms.laws.Pieces.{four_length, named_length, named_bisected}
use Rattle.cutting_laws.specs.fit.laws.Headed.{HeadedEdge, headed_left, headed_top, headed_right}
use Rattle.cutting_laws.specs.fit.laws.FreshCorners.{fresh, bisects, side_fresh}
use Rattle.cutting_laws.specs.fit.laws.Bounds.{HasNumber}

-- ---- the corners of a ring as it is walked: circumcenters with their numbers, and ends at infinity
module _ (P : Corner → Type 0) where
  corners_append : (k l : Ring) → AllCorners {K = Carrier} P k → AllCorners {K = Carrier} P l → AllCorners {K = Carrier} P (k ++ l)
  corners_append [] l a c = c
  corners_append (v ∷ k) l a c = (a.0, corners_append k l a.1 c)

  module _ (sites : List Float) (tri he : List ℕ) (centers : List Float) where
    corners_out : (w : List ℕ) → ((e : ℕ) → 0 < occ e w → P (out_at tri centers e).corner) → AllCorners {K = Carrier} P (map (out_at tri centers) w)
    corners_out [] h = tt
    corners_out (e ∷ w) h = (h e (⊎_elim (λ q. omega (arith, q.1)) (λ q. absurd (q.0 refl)) (same_cases e e)), corners_out w (λ z p. h z (omega arith)))

    module _ (ends : (o : ℕ) → P (hull_end sites tri centers o)) where
      corners_ray : (t : ℕ) → AllCorners {K = Carrier} P (ray_of sites tri he centers t)
      unfolding ray_of
      corners_ray t = go (on_hull he t)
        where
          go : (h : Bool) → AllCorners {K = Carrier} P (pick h (λ _. record { corner = hull_end sites tri centers t; on = bisector_of tri t } ∷ []) (λ _. []))
          go true = (ends t, tt)
          go false = tt

      corners_far : (e : ℕ) → AllCorners {K = Carrier} P (far_of sites tri he centers e)
      unfolding far_of
      corners_far e = go (on_hull he (next_of e))
        where
          go : (h : Bool) → AllCorners {K = Carrier} P (pick h (λ _. record { corner = hull_end sites tri centers (next_of e); on = Infinity } ∷ []) (λ _. []))
          go true = (ends (next_of e), tt)
          go false = tt

      ring_corners : (t : ℕ) → ((e : ℕ) → 0 < occ e (whole_of he t) → P (out_at tri centers e).corner) → AllCorners {K = Carrier} P (site_ring sites tri he centers t)
      unfolding site_ring
      ring_corners t h = go (ltb t (length he))
        where
          go : (b : Bool) → AllCorners {K = Carrier} P (pick b (λ _. ray_of sites tri he centers t ++
              (map (out_at tri centers) (whole_of he t) ++ far_of sites tri he centers (last_or t (whole_of he t)))) (λ _. []))
          go true = corners_append (ray_of sites tri he centers t) _ (corners_ray t)
              (corners_append (map (out_at tri centers) (whole_of he t)) _ (corners_out (whole_of he t) h) (corners_far (last_or t (whole_of he t))))
          go false = tt

-- ---- no crossing has a number
crossing_number : (b : BoundingBox) (x : Crossings) (s : SideName) (centers : ℕ) (p q : Corner) (k : Carrier) → HasNumber centers (meet_of b x s p q k)
crossing_number b x s centers p q (Bisector i j) = inl refl
crossing_number b x s centers p q (Along o) = inl refl
crossing_number b x Left centers p q Infinity = go (x.upward p q)
  where
    go : (t : Bool) → HasNumber centers (cond t (upper_end b) (corner_of b Left Infinity))
    go true = inl refl
    go false = inl refl
crossing_number b x Top centers p q Infinity = inl refl
crossing_number b x Right centers p q Infinity = inl refl
crossing_number b x Bottom centers p q Infinity = inl refl

numbers_by : (b : BoundingBox) (x : Crossings) (centers : ℕ) (ring : Ring) → AllCorners {K = Carrier} (HasNumber centers) ring
    → AllCorners {K = Carrier} (HasNumber centers) (cut_by (side_of b x Bottom) (cut_by (side_of b x Right) (cut_by (side_of b x Top) (cut_by (side_of b x Left) ring))))
numbers_by b x centers ring a =
    let r₁ : Ring = cut_by (side_of b x Left) ring in
    let r₂ : Ring = cut_by (side_of b x Top) r₁ in
    let r₃ : Ring = cut_by (side_of b x Right) r₂ in
    cut_corners (HasNumber centers) (side_of b x Bottom) (crossing_number b x Bottom centers) r₃
    (cut_corners (HasNumber centers) (side_of b x Right) (crossing_number b x Right centers) r₂
    (cut_corners (HasNumber centers) (side_of b x Top) (crossing_number b x Top centers) r₁
    (cut_corners (HasNumber centers) (side_of b x Left) (crossing_number b x Left centers) ring a)))

numbers_four : (b : BoundingBox) (sites : List Float) (centers : ℕ) (ring : Ring) → AllCorners {K = Carrier} (HasNumber centers) ring → AllCorners {K = Carrier} (HasNumber centers)
    (cut_four b sites ring)
unfolding cut_four
numbers_four b sites centers ring a = numbers_by b (crossings_of b sites) centers ring a

none_fresh : (b : BoundingBox) (l : Ring) → AllCorners {K = Carrier} (λ c. fresh b c ≡ false) l → fresh_in (fresh b) bisects l ≡ 0
none_fresh b [] a = refl
none_fresh b (v ∷ l) a = rw a.0 (omega (arith, none_fresh b l a.1))

both_edges : (b : BoundingBox) (l : List (RingEdge Corner Carrier)) → AllEdges (FitsCarrier b HasDirection) l → AllEdges AimedEdge l → AllEdges (HeadedEdge b HasDirection) l
both_edges b [] f a = tt
both_edges b (e ∷ l) f a = ((f.0, a.0), both_edges b l f.1 a.1)

-- what is bound: `entries` sixteenths and points by the names
pub record RingBound (b : BoundingBox) (centers names lines : ℕ) (cut : Ring) : Type 0 where
  pub near : AllNear cut
  pub numbers : AllCorners {K = Carrier} (HasNumber centers) cut
  pub entries : 16 * length cut ≤ 81 * names
  pub points : fresh_in (fresh b) bisects cut ≤ 2 * lines

module _ {tri he hull : List ℕ} {n : ℕ} (ok : Topology tri he hull n) (b : BoundingBox) (ordered : Ordered b) (sites centers : List Float)
    (none : border_number b sites tri hull (leftmost_of tri he n) centers ≡ 0) (few : length tri / 3 < EMPTY)
  where
    module _ (circles : List Float) (s : ℕ) (l : s < n) where
      abbrev ring : Ring
      ring = site_ring sites tri he circles (get_or (leftmost_of tri he n) s 0)

      abbrev x : Crossings
      x = crossings_of b sites

      in_walk : (e : ℕ) → 0 < occ e (whole_of he (get_or (leftmost_of tri he n) s 0)) → e / 3 < length tri / 3
      in_walk e p = omega (arith, (walk_only ok s l e p).0, ok.same, ok.threes)

      ring_numbers : AllCorners {K = Carrier} (HasNumber (length tri / 3)) ring
      ring_numbers = ring_corners (HasNumber (length tri / 3)) sites tri he circles (λ o. inl refl) (get_or (leftmost_of tri he n) s 0) (λ e p. inr (in_walk e p))

      ring_old : AllCorners {K = Carrier} (λ c. fresh b c ≡ false) ring
      ring_old = ring_corners (λ c. fresh b c ≡ false) sites tri he circles (λ o. refl) (get_or (leftmost_of tri he n) s 0)
          (λ e p. rw (ne_eqb (e / 3) EMPTY (λ q. omega (arith, in_walk e p))) refl)

      fits : AllEdges (FitsCarrier b HasDirection) (ring_edges (mesh_ring sites tri he n circles s))
      fits = ring_fits ok (numbers_from 0 n) (each_once n) (each_below n) (point_at circles) (toward_of sites tri) b (all_directed ok b sites centers none) s l

      aimed : AllEdges AimedEdge (ring_edges (mesh_ring sites tri he n circles s))
      aimed = ring_aimed ok (numbers_from 0 n) (each_once n) (each_below n) (point_at circles) (toward_of sites tri) b (all_directed ok b sites centers none) s l

      ring_headed : AllEdges (HeadedEdge b HasDirection) (ring_edges ring)
      ring_headed =
          subst (λ (r : Ring). AllEdges (HeadedEdge b HasDirection) (ring_edges r)) (site_ring_lem sites tri he n circles s)
          (both_edges b (ring_edges (mesh_ring sites tri he n circles s)) fits aimed)

      ring_near : AllNear (cut_four b sites ring)
      unfolding cut_four
      ring_near =
          subst (λ (r : Ring). AllNear (cut_four b sites r)) (site_ring_lem sites tri he n circles s)
          (pieces_near b ordered x (crossings_between b sites ordered) (mesh_ring sites tri he n circles s) fits aimed)

      ring_long : length ring ≡ length (site_names ok s)
      ring_long = subst (λ (r : Ring). length r ≡ length (site_names ok s)) (site_ring_lem sites tri he n circles s) (named_length (mesh_edge sites tri he n circles) (site_names ok s))

      ring_lines : bisected_in (fresh b) bisects ring ≤ bisectors (site_names ok s)
      ring_lines =
          subst (λ (r : Ring). bisected_in (fresh b) bisects r ≤ bisectors (site_names ok s)) (site_ring_lem sites tri he n circles s)
          (named_bisected (mesh_edge sites tri he n circles) (fresh b) bisects (λ o. refl) (site_names ok s))

      abbrev r₁ : Ring
      r₁ = cut_by (side_of b x Left) ring

      abbrev r₂ : Ring
      r₂ = cut_by (side_of b x Top) r₁

      abbrev r₃ : Ring
      r₃ = cut_by (side_of b x Right) r₂

      points : fresh_in (fresh b) bisects (cut_by (side_of b x Bottom) r₃) ≤ 2 * bisectors (site_names ok s)
      points =
          let e₁ = headed_left b ordered x ring ring_headed in
          let e₂ = headed_top b ordered x r₁ e₁ in
          let e₃ = headed_right b ordered x r₂ e₂ in
          let f₀ = side_fresh b ordered x Left HasDirection in
          let f₁ = side_fresh b ordered x Top NotLeft in
          let f₂ = side_fresh b ordered x Right DownOrRight in
          let f₃ = side_fresh b ordered x Bottom Downward in
          let c₀ = chain_begun (fresh b) bisects ring (none_fresh b ring ring_old) in
          let c₁ = ring_chained (fresh b) bisects (side_of b x Left) (HeadedEdge b HasDirection) f₀ ring ring_headed c₀ in
          let c₂ = ring_chained (fresh b) bisects (side_of b x Top) (HeadedEdge b NotLeft) f₁ r₁ e₁ c₁ in
          let c₃ = ring_chained (fresh b) bisects (side_of b x Right) (HeadedEdge b DownOrRight) f₂ r₂ e₂ c₂ in
          let c₄ = ring_chained (fresh b) bisects (side_of b x Bottom) (HeadedEdge b Downward) f₃ r₃ e₃ c₃ in
          omega (
            arith,
            chain_fresh (fresh b) bisects (cut_by (side_of b x Bottom) r₃) c₄,
            cut_bisected (fresh b) bisects (side_of b x Bottom) (HeadedEdge b Downward) f₃ r₃,
            cut_bisected (fresh b) bisects (side_of b x Right) (HeadedEdge b DownOrRight) f₂ r₂,
            cut_bisected (fresh b) bisects (side_of b x Top) (HeadedEdge b NotLeft) f₁ r₁,
            cut_bisected (fresh b) bisects (side_of b x Left) (HeadedEdge b HasDirection) f₀ ring,
            ring_lines,
          )

      pub ring_bound : RingBound b (length tri / 3) (length (site_names ok s)) (bisectors (site_names ok s)) (cut_four b sites ring)
      unfolding cut_four
      ring_bound = record {
        near = ring_near;
        numbers = numbers_four b sites (length tri / 3) ring ring_numbers;
        entries = omega (arith, four_length (side_of b x Left) (side_of b x Top) (side_of b x Right) (side_of b x Bottom) ring, ring_long);
        points = points;
      }
