-- Theorems: cuts by any number of sides, one after the other. A sum over the rings cut by all sides is a sum over the edges of the rings themselves (`cut_all_lem`, `cut_rings`).
use Rattle.std.specs.Prelude.{◌≡◌, refl, List, [], ◌∷◌, map}
use Rattle.std.proofs.Common.{arith}
use Rattle.cutting.specs.cuts.Numbers.{Balance, ◌≈◌}
use Rattle.cutting.specs.cuts.Rings.{At, EdgeForm, ring_edges, edges_of_all, of_edge, total, sum_over, sum_over_all}
use Rattle.cutting.specs.cuts.Cut.{Side, cut_by, before_cut}
use Rattle.cutting.specs.cuts.Step.{Potential, Antisymmetric, back, cut_sum, before_antisymmetric, before_potential}
use Rattle.cutting.specs.cuts.Pairs.{sum_append}

-- a side with the potential, along it, of what is summed in the end, and the one corner where an earlier side or the line at infinity crosses it
pub record Fence (C K : Type 0) : Type 0 where
  pub side : Side C K
  pub potential : C → Balance
  pub corner : K → C

abbrev pub cut_all : {C K : Type 0} → List (Fence C K) → List (At C K) → List (At C K)
cut_all [] ring = ring
cut_all (t ∷ r) ring = cut_all r (cut_by t.side ring)

-- a potential u of carrier k after the cuts, as it is before them
abbrev pub potential_of : {C K : Type 0} → List (Fence C K) → K → (C → Balance) → C → Balance
potential_of [] k u = u
potential_of (t ∷ r) k u = back t.side (potential_of r t.side.along t.potential) (potential_of r k u) (t.corner k)

-- what is summed after the cuts, as it is before them
abbrev pub before_all : {C K : Type 0} → List (Fence C K) → EdgeForm C K → EdgeForm C K
before_all [] h = h
before_all (t ∷ r) h = before_cut t.side (potential_of r t.side.along t.potential) (before_all r h)

-- carrier k crosses each side in one corner
abbrev pub CrossesOnce : {C K : Type 0} → List (Fence C K) → K → Type 0
CrossesOnce [] k = Unit {0}
CrossesOnce {C} (t ∷ r) k = ((p q : C) → t.side.meet p q k ≡ t.corner k) × CrossesOnce r k

-- an edge on carrier k crosses each side at the same corner from both ends
abbrev pub SameBothWays : {C K : Type 0} → List (Fence C K) → K → Type 0
SameBothWays [] k = Unit {0}
SameBothWays {C} (t ∷ r) k = ((p q : C) → t.side.meet p q k ≡ t.side.meet q p k) × SameBothWays r k

-- h is a difference of a potential along each side, and each side crosses each later one in one corner
abbrev pub Fenced : {C K : Type 0} → List (Fence C K) → EdgeForm C K → Type 0
Fenced [] h = Unit {0}
Fenced (t ∷ r) h = Potential h t.side.along t.potential × CrossesOnce r t.side.along × Fenced r h

module _ {C K : Type 0} (h : EdgeForm C K) where
  pub potential_before : (r : List (Fence C K)) (k : K) (u : C → Balance) → CrossesOnce r k → Potential h k u → Potential (before_all r h) k (potential_of r k u)
  potential_before [] k u crosses pot = pot
  potential_before (t ∷ r) k u crosses pot =
      before_potential t.side (before_all r h) (potential_of r t.side.along t.potential) (potential_of r k u) k (t.corner k) crosses.0
      (potential_before r k u crosses.1 pot)

  pub antisymmetric_before : (r : List (Fence C K)) (k : K) → SameBothWays r k → Antisymmetric h k → Antisymmetric (before_all r h) k
  antisymmetric_before [] k same anti = anti
  antisymmetric_before (t ∷ r) k same anti =
      before_antisymmetric t.side (before_all r h) (potential_of r t.side.along t.potential) k same.0 (antisymmetric_before r k same.1 anti)

  pub cut_all_lem : (r : List (Fence C K)) → Fenced r h → (ring : List (At C K)) → sum_over h (cut_all r ring) ≈ sum_over (before_all r h) ring
  cut_all_lem [] ok ring = omega arith
  cut_all_lem (t ∷ r) ok ring =
      omega (
        arith,
        cut_all_lem r ok.2 (cut_by t.side ring),
        cut_sum t.side (before_all r h) (potential_of r t.side.along t.potential)
            (potential_before r t.side.along t.potential ok.1 ok.0) ring,
      )

  pub cut_rings : (r : List (Fence C K)) → Fenced r h → (rings : List (List (At C K))) → sum_over_all h (map (cut_all r) rings) ≈ total (before_all r h) (edges_of_all rings)
  cut_rings r ok [] = refl
  cut_rings r ok (ring ∷ l) = omega (arith, cut_all_lem r ok ring, cut_rings r ok l, sum_append (of_edge (before_all r h)) (ring_edges ring) (edges_of_all l))
