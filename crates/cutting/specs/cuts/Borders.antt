-- Theorems: what is left of an edge by all sides, its part, is the same from both ends (`part_back`), so neighbours share their border; and but for what lies along the sides a cut
-- ring has the parts of the ring's edges and nothing else: whatever is nothing along the sides has the same sum over both (`cut_parts`).
use Rattle.std.specs.Prelude.{◌≡◌, refl, Bool, true, false, List, [], ◌∷◌, map}
use Rattle.std.proofs.Common.{arith}
use Rattle.cutting.specs.cuts.Numbers.{none, ◌≈◌}
use Rattle.cutting.specs.cuts.Rings.{At, RingEdge, EdgeForm, ring_edges, sum_by, of_edge, sum_over}
use Rattle.cutting.specs.cuts.Cut.{Side, cut_by, before_by, before_cut}
use Rattle.cutting.specs.cuts.Step.{cut_sum}
use Rattle.cutting.specs.cuts.Edges.{AllEdges, same_form}
use Rattle.cutting.specs.cuts.Sides.{Fence, cut_all, SameBothWays}

-- by one side: what `part` makes of what is left of the edge from p to q
abbrev pub left_by : {C K A : Type 0} → Bool → Bool → Side C K → C → C → K → (C → C → List A) → List A
left_by true true s p q k part = part p q
left_by true false s p q k part = part p (s.meet p q k)
left_by false true s p q k part = part (s.meet p q k) q
left_by false false s p q k part = []

-- what the sides leave of the edge from p to q on k: one edge on k, or none
abbrev pub left_of : {C K : Type 0} → List (Fence C K) → K → C → C → List (RingEdge C K)
left_of [] k p q = record { from = p; to = q; on = k } ∷ []
left_of (t ∷ r) k p q = left_by (t.side.within p) (t.side.within q) t.side p q k (left_of r k)

abbrev pub turned : {C K : Type 0} → RingEdge C K → RingEdge C K
turned e = record { from = e.to; to = e.from; on = e.on }

pub part_back : {C K : Type 0} (r : List (Fence C K)) (k : K) → SameBothWays r k → (p q : C) → left_of r k q p ≡ map turned (left_of r k p q)
part_back [] k same p q = refl
part_back {C} {K} (t ∷ r) k same p q = go (t.side.within p) (t.side.within q) (part_back r k same.1)
  where
    go : (a b : Bool) → ((p q : C) → left_of r k q p ≡ map turned (left_of r k p q)) → left_by b a t.side q p k (left_of r k) ≡ map turned (left_by a b t.side p q k (left_of r k))
    go true true back = back p q
    go true false back = rw (same.0 q p) (back p (t.side.meet p q k))
    go false true back = rw (same.0 q p) (back (t.side.meet p q k) q)
    go false false back = refl

-- the sum of g over the part of an edge
abbrev pub part_sum : {C K : Type 0} → List (Fence C K) → EdgeForm C K → EdgeForm C K
part_sum r g p q k = sum_by (of_edge g) (left_of r k p q)

-- g is nothing on carrier k
abbrev pub NothingOn : {C K : Type 0} → EdgeForm C K → K → Type 0
NothingOn {C} g k = (p q : C) → g p q k ≈ none

abbrev pub NothingAlong : {C K : Type 0} → List (Fence C K) → EdgeForm C K → Type 0
NothingAlong [] g = Unit {0}
NothingAlong (t ∷ r) g = NothingOn g t.side.along × NothingAlong r g

-- a part lies on the edge's carrier
part_nothing : {C K : Type 0} (r : List (Fence C K)) (g : EdgeForm C K) (k : K) → NothingOn g k → NothingOn (part_sum r g) k
part_nothing [] g k nothing p q = omega (arith, nothing p q)
part_nothing (t ∷ r) g k nothing p q = go (t.side.within p) (t.side.within q) (part_nothing r g k nothing)
  where
    go : (a b : Bool) → NothingOn (part_sum r g) k → sum_by (of_edge g) (left_by a b t.side p q k (left_of r k)) ≈ none
    go true true i = i p q
    go true false i = i p (t.side.meet p q k)
    go false true i = i (t.side.meet p q k) q
    go false false i = refl

-- one cut of what is nothing along the side
part_step : {C K : Type 0} (t : Fence C K) (r : List (Fence C K)) (g : EdgeForm C K) (p q : C) (k : K)
    → before_cut t.side (λ _. none) (part_sum r g) p q k ≈ part_sum (t ∷ r) g p q k
part_step t r g p q k = go (t.side.within p) (t.side.within q)
  where
    go : (a b : Bool) → before_by a b t.side (λ _. none) (part_sum r g) p q k ≈ sum_by (of_edge g) (left_by a b t.side p q k (left_of r k))
    go true true = omega arith
    go true false = omega arith
    go false true = omega arith
    go false false = refl

every : {C K : Type 0} (P : C → C → K → Type 0) → ((p q : C) (k : K) → P p q k) → (l : List (RingEdge C K)) → AllEdges P l
every P f [] = tt
every P f (e ∷ l) = (f e.from e.to e.on, every P f l)

pub cut_parts : {C K : Type 0} (r : List (Fence C K)) (g : EdgeForm C K) → NothingAlong r g → (ring : List (At C K)) → sum_over g (cut_all r ring) ≈ sum_over (part_sum r g) ring
cut_parts [] g nothing ring = same_form g (part_sum [] g) (ring_edges ring) (every (λ p q k. g p q k ≈ part_sum [] g p q k) (λ p q k. omega arith) (ring_edges ring))
cut_parts (t ∷ r) g nothing ring =
    omega (
      arith,
      cut_parts r g nothing.1 (cut_by t.side ring),
      cut_sum t.side (part_sum r g) (λ _. none) (λ p q. omega (arith, part_nothing r g t.side.along nothing.0 p q)) ring,
      same_form (before_cut t.side (λ _. none) (part_sum r g)) (part_sum (t ∷ r) g) (ring_edges ring)
          (every (λ p q k. before_cut t.side (λ _. none) (part_sum r g) p q k ≈ part_sum (t ∷ r) g p q k) (part_step t r g) (ring_edges ring)),
    )
