-- Rings whose edges carry what they lie on, their edges, and the sum of something over edges. Definitions only.
use Rattle.std.specs.Prelude.{List, [], ◌∷◌, ◌++◌}
use Rattle.cutting.specs.cuts.Numbers.{Balance, none, ◌∔◌}

-- a corner of a ring, and the carrier of the edge from it on: what that edge lies on
pub record At (C K : Type 0) : Type 0 where
  pub corner : C
  pub on : K

pub record RingEdge (C K : Type 0) : Type 0 where
  pub from : C
  pub to : C
  pub on : K

-- something that every edge has: its part of the twice area, for one
abbrev pub EdgeForm : Type 0 → Type 0 → Type 0
EdgeForm C K = C → C → K → Balance

-- the first corner of a list, or the corner where the list ends
abbrev pub head_or : {C K : Type 0} → C → List (At C K) → C
head_or e [] = e
head_or e (v ∷ r) = v.corner

-- the edges from corner to corner of a list, and from its last on to e
abbrev pub edges_to : {C K : Type 0} → C → List (At C K) → List (RingEdge C K)
edges_to e [] = []
edges_to e (v ∷ r) = record { from = v.corner; to = head_or e r; on = v.on } ∷ edges_to e r

-- the edges of a ring: the last goes back to the first corner
abbrev pub ring_edges : {C K : Type 0} → List (At C K) → List (RingEdge C K)
ring_edges [] = []
ring_edges (v ∷ r) = edges_to v.corner (v ∷ r)

-- the sum of g over a list
abbrev pub sum_by : {E : Type 0} → (E → Balance) → List E → Balance
sum_by g [] = none
sum_by g (e ∷ l) = g e ∔ sum_by g l

abbrev pub of_edge : {C K : Type 0} → EdgeForm C K → RingEdge C K → Balance
of_edge h e = h e.from e.to e.on

abbrev pub total : {C K : Type 0} → EdgeForm C K → List (RingEdge C K) → Balance
total h l = sum_by (of_edge h) l

-- the sum of h over a ring's edges
abbrev pub sum_over : {C K : Type 0} → EdgeForm C K → List (At C K) → Balance
sum_over h ring = total h (ring_edges ring)

-- the edges of all rings, and the sum of h over them
abbrev pub edges_of_all : {C K : Type 0} → List (List (At C K)) → List (RingEdge C K)
edges_of_all [] = []
edges_of_all (ring ∷ l) = ring_edges ring ++ edges_of_all l

abbrev pub sum_over_all : {C K : Type 0} → EdgeForm C K → List (List (At C K)) → Balance
sum_over_all h rings = sum_by (sum_over h) rings
