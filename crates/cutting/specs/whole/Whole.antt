-- Theorem: on every mesh that rules 7 to 10 accept, whatever its triangles, where the border turns once the exact areas of the pieces made by cutting add up to exactly the box's
-- (`mesh_whole`), and so any form of sides adds up to what it is round the box (`mesh_form`).
use Rattle.std.specs.Prelude.{◌≡◌, refl, Bool, true, false, cond, List, [], ◌∷◌, map, ℕ, ◌+◌, ◌/◌, ◌<◌, min, max, length, get_or}
use Rattle.std.proofs.Common.{sym, subst, ◌∙◌, ⊎_elim, arith}
use Rattle.std.proofs.lemmas.Bool.{false≢true}
use Rattle.base.specs.common.Count.{same, occ}
use Rattle.base.specs.common.laws.Count.{same_cases}
use Rattle.base.specs.common.laws.Decide.{lt_or_ge}
use Rattle.plane.specs.declared.points.Point.{Point}
use Rattle.plane.specs.boxes.Box.{corners_of}
use Rattle.plane.specs.declared.boxes.BoundingBox.{BoundingBox}
use Rattle.mesh.specs.Mesh.{start_of, end_of, pair_of}
use Rattle.mesh.specs.Hull.{next_place}
use Rattle.mesh.specs.Accepted.{Topology}
use Rattle.mesh.specs.laws.Border.{after_lt, hull_border}
use Rattle.mesh.specs.laws.Facts.{paired, leftmost_unpaired}
use Rattle.cutting.specs.cuts.Numbers.{◌≈◌}
use Rattle.cutting.specs.cuts.Rings.{At, RingEdge, ring_edges, sum_by}
use Rattle.cutting.specs.cuts.Edges.{AllEdges}
use Rattle.cutting.specs.cuts.Pairs.{often}
use Rattle.cutting.specs.cuts.Written.{round}
use Rattle.cutting.specs.cuts.Whole.{Names}
use Rattle.cutting.specs.cuts.Named.{EdgeName, out, ray, far, by_name, same_self, named_ring}
use Rattle.cutting.specs.cuts.laws.Naming.{named_ring_lem}
use Rattle.cutting.specs.rings.Names.{on_hull}
use Rattle.cutting.specs.rings.Opposed.{opposite_name, twice_opposite, mates}
use Rattle.cutting.specs.rings.Rings.{starts_at}
use Rattle.cutting.specs.rings.Counts.{site_names, all_names, unpaired, out_none_in}
use Rattle.cutting.specs.rings.Absent.{ray_none_in, far_none_in}
use Rattle.cutting.specs.rings.Border.{arrives, border_names}
use Rattle.cutting.specs.rings.Parted.{near_far, pairs, pairs_paired}
use Rattle.cutting.specs.rings.Joined.{edges, rings, border, one_closed, all_named, rest_named, parted, opposed, bordered}
use Rattle.cutting.specs.corner.Corner.{circle_center, far_at, Crossings}
use Rattle.cutting.specs.declared.corner.Corner.{Corner}
use Rattle.cutting.specs.declared.corner.Carrier.{Carrier}
use Rattle.cutting.specs.declared.corner.Carrier.TheVariants.{Bisector, Infinity}
use Rattle.cutting.specs.sides.Area.{SideForm}
use Rattle.cutting.specs.sides.Kept.{Ordered, HasDirection, FitsCarrier}
use Rattle.cutting.specs.sides.Inside.{Aimed, AimedEdge}
use Rattle.cutting.specs.sides.Exact.{written_of, twice, BothWays, JoinedRings, AllFit, TurnsOnce, written_form_lem}
use Rattle.cutting.specs.sides.Alike.{pieces_fill}

-- the bisector of the sites that a half-edge joins, the lower first
abbrev pub bisector_of : List ℕ → ℕ → Carrier
bisector_of tri o = Bisector (min (start_of tri o) (end_of tri o)) (max (start_of tri o) (end_of tri o))

-- the end at infinity of a half-edge on the hull: outward, on the line from the center of its triangle's circle
abbrev pub end_on : (ℕ → Point) → (ℕ → Point) → ℕ → Corner
end_on circle outward o = far_at (circle (o / 3)) (outward o)

module _ {tri he hull : List ℕ} {sites : ℕ} (ok : Topology tri he hull sites) (order : List ℕ) (once : (s : ℕ) → s < sites → occ s order ≡ 1)
    (below : (s : ℕ) → 0 < occ s order → s < sites) (circle outward : ℕ → Point)
  where
    abbrev pub center : ℕ → Corner
    center t = circle_center (circle t) t

    abbrev pub edge : EdgeName → RingEdge Corner Carrier
    edge = edges ok order once below center (end_on circle outward) (bisector_of tri) Infinity

    -- the rings of all sites in their order, and the border at Infinity
    abbrev pub mesh_rings : List (List (At Corner Carrier))
    mesh_rings = rings ok order once below center (end_on circle outward) (bisector_of tri) Infinity

    abbrev pub mesh_border : List (At Corner Carrier)
    mesh_border = border ok order once below center (end_on circle outward) (bisector_of tri) Infinity

    names : Names Corner Carrier EdgeName
    names = record { test = by_name; edge = edge; opposite = opposite_name he; twice = twice_opposite tri he (paired ok) }

    pub pair_bisector : (o : ℕ) → o < length he → on_hull he o ≡ false → bisector_of tri (pair_of he o) ≡ bisector_of tri o
    pair_bisector o l h =
        let m = mates tri he (paired ok) o l h in
        rw (m.from, m.to) (swapped (end_of tri o) (start_of tri o))
      where
        swapped : (a c : ℕ) → Bisector (min a c) (max a c) ≡ Bisector (min c a) (max c a)
        swapped a c = let p : min a c ≡ min c a = omega arith in let q : max a c ≡ max c a = omega arith in rw (p, q) refl

    bisected : (n : EdgeName) → 0 < often by_name n (pairs ok order once below) → (i : ℕ) × (j : ℕ) × ((edge n).on ≡ Bisector i j)
    bisected (out o) p = (min (start_of tri o) (end_of tri o), max (start_of tri o) (end_of tri o), refl)
    bisected (ray o) p = (min (start_of tri o) (end_of tri o), max (start_of tri o) (end_of tri o), refl)
    bisected (far o) p = absurd (omega (arith, near_far o (all_names ok order)))

    joined : (b : BoundingBox) → JoinedRings names b mesh_rings mesh_border
    unfolding names
    joined b = record {
      all = all_names ok order;
      pairs = pairs ok order once below;
      rest = border_names ok (length hull);
      all_named = all_named ok order once below center (end_on circle outward) (bisector_of tri) Infinity;
      rest_named = rest_named ok order once below center (end_on circle outward) (bisector_of tri) Infinity;
      parted = parted ok order once below;
      paired = pairs_paired ok order once below;
      opposed = opposed ok order once below center (end_on circle outward) (bisector_of tri) Infinity pair_bisector;
      bisected = bisected;
      bordered = bordered ok order once below center (end_on circle outward) (bisector_of tri) Infinity (length hull);
    }

    -- each half-edge on the hull has a direction, by the places of the hull where they end
    module _ (b : BoundingBox) (headed : (i : ℕ) → i < length hull → HasDirection (outward (arrives ok i))) where
      abbrev Headed : ℕ → Type 0
      Headed o = HasDirection (outward o) × HasDirection (outward (starts_at ok (start_of tri o)))

      hull_headed : (o : ℕ) → o < length he → on_hull he o ≡ true → Headed o
      hull_headed o l h =
          let u = unpaired ok o l h in
          let w = (hull_border tri he hull sites ok.border o l u).0 in
          let j = next_place (length hull) w.0 in
          let lj = after_lt (length hull) w.0 w.1 in (
            subst (λ (z : ℕ). HasDirection (outward z)) (leftmost_unpaired ok (get_or hull j 0) (ok.border.fresh j lj).0 o l w.3 u) (headed j lj),
            subst (λ (z : ℕ). HasDirection (outward (starts_at ok z))) (sym w.2) (headed w.0 w.1),
          )

      -- an edge at infinity in the ring of a site is that of a half-edge on the hull
      far_headed : (s : ℕ) → s < sites → (o : ℕ) → 0 < often by_name (far o) (site_names ok s) → Headed o
      far_headed s ls o p = ⊎_elim (λ l. go (on_hull he o) refl l) (λ l. absurd (omega (arith, far_none_in ok o (λ i _. omega arith) s ls))) (lt_or_ge o (length he))
        where
          go : (t : Bool) → on_hull he o ≡ t → o < length he → Headed o
          go true h l = hull_headed o l h
          go false h l = absurd (omega (arith, far_none_in ok o (λ _ k. false≢true (sym h ∙ k)) s ls))

      here_far : (o : ℕ) (l : List EdgeName) → 0 < often by_name (far o) (far o ∷ l)
      here_far o l = rw (same_self (far o)) (omega arith)

      names_fit : (l : List EdgeName) → ((o : ℕ) → 0 < often by_name (far o) l → Headed o) → AllEdges (FitsCarrier b HasDirection) (map edge l)
      names_fit [] good = tt
      names_fit (out o ∷ l) good = (tt, names_fit l (λ z p. good z (omega arith)))
      names_fit (ray o ∷ l) good = (tt, names_fit l (λ z p. good z (omega arith)))
      names_fit (far o ∷ l) good = let g = good o (here_far o l) in (((refl, g.0), (refl, g.1)), names_fit l (λ z p. good z (omega arith)))

      -- the ring of a site, and all of them
      pub ring_fits : (s : ℕ) → s < sites → AllEdges (FitsCarrier b HasDirection) (ring_edges (named_ring edge (site_names ok s)))
      ring_fits s l =
          subst (λ (r : List (RingEdge Corner Carrier)). AllEdges (FitsCarrier b HasDirection) r)
          (named_ring_lem edge (site_names ok s) (one_closed ok order once below center (end_on circle outward) (bisector_of tri) Infinity s l)) (names_fit (site_names ok s) (far_headed s l))

      -- its corners at infinity have a direction
      out_headed : (s : ℕ) → s < sites → (o : ℕ) → 0 < often by_name (out o) (site_names ok s) → on_hull he o ≡ true → HasDirection (outward o)
      out_headed s ls o p h =
          ⊎_elim (λ l. (hull_headed o l h).0) (λ l. absurd (omega (arith, out_none_in ok o s l ls))) (lt_or_ge o (length he))

      ray_headed : (s : ℕ) → s < sites → (o : ℕ) → 0 < often by_name (ray o) (site_names ok s) → HasDirection (outward o)
      ray_headed s ls o p = ⊎_elim (λ l. go (on_hull he o) refl l) (λ l. absurd (omega (arith, ray_none_in ok o (λ i _. omega arith) s ls))) (lt_or_ge o (length he))
        where
          go : (t : Bool) → on_hull he o ≡ t → o < length he → HasDirection (outward o)
          go true h l = (hull_headed o l h).0
          go false h l = absurd (omega (arith, ray_none_in ok o (λ _ k. false≢true (sym h ∙ k)) s ls))

      names_aimed : (l : List EdgeName) → ((o : ℕ) → 0 < often by_name (out o) l → on_hull he o ≡ true → HasDirection (outward o)) → ((o : ℕ) → 0 < often by_name (ray o) l → HasDirection (outward o))
          → ((o : ℕ) → 0 < often by_name (far o) l → Headed o) → AllEdges AimedEdge (map edge l)
      names_aimed [] f g h = tt
      names_aimed (out o ∷ l) f g h =
          ((λ e. absurd (false≢true e), go (on_hull he o) (f o (rw (same_self (out o)) (omega arith)))), names_aimed l (λ z p. f z (omega arith)) (λ z p. g z (omega arith)) (λ z p. h z (omega arith)))
        where
          go : (t : Bool) → (t ≡ true → HasDirection (outward o)) → Aimed (cond t (end_on circle outward o) (center (pair_of he o / 3)))
          go true k e = k refl
          go false k e = absurd (false≢true e)
      names_aimed (ray o ∷ l) f g h =
          ((λ _. g o (rw (same_self (ray o)) (omega arith)), λ e. absurd (false≢true e)), names_aimed l (λ z p. f z (omega arith)) (λ z p. g z (omega arith)) (λ z p. h z (omega arith)))
      names_aimed (far o ∷ l) f g h =
          let k = h o (here_far o l) in
          ((λ _. k.0, λ _. k.1), names_aimed l (λ z p. f z (omega arith)) (λ z p. g z (omega arith)) (λ z p. h z (omega arith)))

      pub ring_aimed : (s : ℕ) → s < sites → AllEdges AimedEdge (ring_edges (named_ring edge (site_names ok s)))
      ring_aimed s l =
          subst (λ (r : List (RingEdge Corner Carrier)). AllEdges AimedEdge r)
          (named_ring_lem edge (site_names ok s) (one_closed ok order once below center (end_on circle outward) (bisector_of tri) Infinity s l))
          (names_aimed (site_names ok s) (out_headed s l) (ray_headed s l) (far_headed s l))

      rings_fit : (l : List ℕ) → ((s : ℕ) → 0 < occ s l → s < sites) → AllFit b (map (named_ring edge) (map (site_names ok) l))
      rings_fit [] w = tt
      rings_fit (s ∷ r) w = (ring_fits s (w s here), rings_fit r (λ z p. w z (omega arith)))
        where
          here : 0 < same s s + occ s r
          here = ⊎_elim (λ v. omega (arith, v.1)) (λ v. absurd (v.0 refl)) (same_cases s s)

      pub mesh_form : (ordered : Ordered b) (x : Crossings) (f : SideForm b) → BothWays x → TurnsOnce b x mesh_border
          → sum_by (round f.of) (map (written_of b x) mesh_rings) ≈ round f.of (corners_of b)
      mesh_form ordered x f both turns = written_form_lem b ordered x f both names mesh_rings mesh_border (joined b) (rings_fit order below) turns

      pub mesh_whole : (ordered : Ordered b) (x : Crossings) → BothWays x → TurnsOnce b x mesh_border → sum_by twice (map (written_of b x) mesh_rings) ≈ twice (corners_of b)
      mesh_whole ordered x both turns = pieces_fill b ordered x both names mesh_rings mesh_border (joined b) (rings_fit order below) turns
