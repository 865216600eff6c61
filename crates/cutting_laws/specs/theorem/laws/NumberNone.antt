-- What the border's number 0 says: each half-edge on the hull has a direction (`all_directed`), and the border turns exactly once (`turns_once`).
use Rattle.std.specs.Prelude.{◌≡◌, refl, Bool, true, false, ◌||◌, List, map, ◌⊎◌, eqb, Float, length}
use Rattle.std.proofs.Common.{subst, inl, inr, arith, eqb-true}
use Prim.Native.Nat.{ℕ, zero, suc, ◌+◌, ◌<◌}
use Rattle.std.specs.Float.Ieee.{lt}
use Rattle.std.proofs.lemmas.Bool.{not-false}
use Rattle.base.specs.common.Binary64 as B
use Rattle.base.specs.common.Count.{occ}
use Rattle.base.specs.common.Pick.{pick}
use Rattle.ring_area.specs.lowest.Lowest.{any_below}
use Rattle.ring_area.specs.lowest.laws.Loops.{none_taken}
use Rattle.plane.specs.points.Flat.{point_at}
use Rattle.plane.specs.declared.points.Point.{Point}
use Rattle.plane.specs.declared.boxes.BoundingBox.{BoundingBox}
use Rattle.mesh.specs.Mesh.{leftmost_of}
use Rattle.mesh.specs.Accepted.{Topology}
use Rattle.cutting.specs.cuts.Rings.{RingEdge}
use Rattle.cutting.specs.cuts.Step.{comes_there, goes_there}
use Rattle.cutting.specs.cuts.Turns.{count_over}
use Rattle.cutting.specs.rings.Border.{arrives, border_names}
use Rattle.cutting.specs.rings.Joined.{rest_named}
use Rattle.cutting.specs.corner.Corner.{side_of}
use Rattle.cutting.specs.declared.corner.SideName.TheVariants.{Left}
use Rattle.cutting.specs.declared.corner.Corner.{Corner}
use Rattle.cutting.specs.declared.corner.Carrier.{Carrier}
use Rattle.cutting.specs.declared.corner.Carrier.TheVariants.{Infinity}
use Rattle.cutting.specs.sides.Kept.{HasDirection}
use Rattle.cutting.specs.sides.Exact.{TurnsOnce}
use Rattle.cutting.specs.meet.Crossing.{upward_of, crossings_of}
use Rattle.cutting.specs.whole.Whole.{bisector_of, end_on, center, edge, mesh_border}
use Rattle.cutting.specs.border.Border.{refused_border, toward_of, directed, undirected_at, turned_by, turns_after, turns_to, once_of, border_number}
use Rattle.cutting.specs.declared.border.Turns.{Turns}

-- a direction, as a fact
has_direction : (d : Point) → directed d ≡ true → HasDirection d
unfolding directed
has_direction d h = go (lt d.x B.zero) (lt d.y B.zero) (lt B.zero d.x) (lt B.zero d.y) h
  where
    go : (p q r s : Bool) → (p || (q || (r || s))) ≡ true → (p ≡ true) ⊎ ((q ≡ true) ⊎ ((r ≡ true) ⊎ (s ≡ true)))
    go true q r s h = inl refl
    go false true r s h = inr (inl refl)
    go false false true s h = inr (inr (inl refl))
    go false false false s h = inr (inr (inr h))

once_turned : (t : Turns) → once_of t ≡ 0 → t.comes ≡ t.goes + 1
unfolding once_of
once_turned t e = go (eqb t.comes (t.goes + 1)) refl e
  where
    go : (u : Bool) → eqb t.comes (t.goes + 1) ≡ u → pick u (λ _. 0) (λ _. refused_border) ≡ 0 → t.comes ≡ t.goes + 1
    go true q e = eqb-true t.comes (t.goes + 1) q
    go false q e = absurd (omega arith)

-- the two halves of the number
both_none : (u : Bool) (m : ℕ) → pick u (λ _. refused_border) (λ _. m) ≡ 0 → (u ≡ false) × (m ≡ 0)
both_none true m e = absurd (omega arith)
both_none false m e = (refl, e)

module _ {tri he hull : List ℕ} {n : ℕ} (ok : Topology tri he hull n) (b : BoundingBox) (sites centers : List Float)
    (none : border_number b sites tri hull (leftmost_of tri he n) centers ≡ 0)
  where
    abbrev table : List ℕ
    table = leftmost_of tri he n

    halves : (any_below (undirected_at sites tri hull table) (length hull) ≡ false) × (once_of (turns_to b sites tri hull table centers (length hull)) ≡ 0)
    unfolding border_number
    halves = both_none (any_below (undirected_at sites tri hull table) (length hull)) (once_of (turns_to b sites tri hull table centers (length hull))) none

    pub all_directed : (i : ℕ) → i < length hull → HasDirection (toward_of sites tri (arrives ok i))
    unfolding undirected_at
    all_directed i l =
        has_direction (toward_of sites tri (arrives ok i))
        (not-false (directed (toward_of sites tri (arrives ok i))) (none_taken (undirected_at sites tri hull table) (length hull) halves.0 i l))

    module _ (order : List ℕ) (once : (s : ℕ) → s < n → occ s order ≡ 1) (below : (s : ℕ) → 0 < occ s order → s < n) where
      -- the edges at infinity of the first k places are counted as the number counts them
      counted : (k : ℕ)
          → (count_over (comes_there (side_of b (crossings_of b sites) Left) upward_of) (map (edge ok order once below (point_at centers) (toward_of sites tri)) (border_names ok k))
          ≡ (turns_to b sites tri hull table centers k).comes)
          × (count_over (goes_there (side_of b (crossings_of b sites) Left) upward_of) (map (edge ok order once below (point_at centers) (toward_of sites tri)) (border_names ok k))
          ≡ (turns_to b sites tri hull table centers k).goes)
      unfolding turns_to turns_after turned_by
      counted zero = (refl, refl)
      counted (suc k) = let c = counted k in (omega (arith, c.0), omega (arith, c.1))

      pub turns_once : TurnsOnce b (crossings_of b sites) (mesh_border ok order once below (point_at centers) (toward_of sites tri))
      turns_once =
          subst (λ (l : List (RingEdge Corner Carrier)). count_over (comes_there (side_of b (crossings_of b sites) Left) upward_of) l
          ≡ count_over (goes_there (side_of b (crossings_of b sites) Left) upward_of) l + 1)
          (rest_named ok order once below (center ok order once below (point_at centers) (toward_of sites tri)) (end_on (point_at centers) (toward_of sites tri)) (bisector_of tri) Infinity)
          (let c = counted (length hull) in omega (arith, c.0, c.1, once_turned (turns_to b sites tri hull table centers (length hull)) halves.1))
