-- Theorems: the edges at infinity. Past the first side what is summed is a difference of a potential there (`far_potential`), and before it that and one fixed number for
-- each turn (`far_edge`); round a closed ring at infinity the potential goes and the turns stay (`far_ring`).
use Rattle.std.specs.Prelude.{◌≡◌, Bool, true, cond, List, [], ◌∷◌, ℕ, ◌+◌}
use Rattle.std.proofs.Common.{arith}
use Rattle.cutting.specs.cuts.Numbers.{Balance, ◌∔◌, ◌∸◌, ◌⨯◌, ◌≈◌}
use Rattle.cutting.specs.cuts.Rings.{At, RingEdge, EdgeForm, head_or, edges_to, ring_edges, total, sum_over}
use Rattle.cutting.specs.cuts.Step.{Potential, PotentialOn, one_turn, comes_there, goes_there, before_potential_on, before_turning}
use Rattle.cutting.specs.cuts.Sides.{Fence, potential_of, before_all}

-- between corners of which D holds, carrier k crosses each side in one corner; what is left of them has a narrower property at each side
abbrev pub Narrows : {C K : Type 0} → List (Fence C K) → K → (C → Type 0) → Type 1
Narrows [] k D = Unit {1}
Narrows {C} (t ∷ r) k D =
    (E : C → Type 0) × ((p : C) → D p → t.side.within p ≡ true → E p) × E (t.corner k)
    × ((p q : C) → D p → D q → (t.side.within p ≡ t.side.within q → ⊥) → t.side.meet p q k ≡ t.corner k) × Narrows r k E

pub far_potential : {C K : Type 0} (h : EdgeForm C K) (k : K) (u : C → Balance) → Potential h k u → (r : List (Fence C K)) (D : C → Type 0) → Narrows r k D
    → PotentialOn D (before_all r h) k (potential_of r k u)
far_potential h k u pot [] D n = λ p q _ _. pot p q
far_potential h k u pot (t ∷ r) D n =
    before_potential_on t.side (before_all r h) (potential_of r t.side.along t.potential) (potential_of r k u) k D n.0 n.1 (t.corner k) n.2 n.3
    (far_potential h k u pot r n.0 n.4)

-- how often an edge does something, over edges
abbrev pub count_over : {C K : Type 0} → (C → C → ℕ) → List (RingEdge C K) → ℕ
count_over n [] = 0
count_over n (e ∷ l) = n e.from e.to + count_over n l

-- all corners of a list have D, and all its edges carrier k
abbrev pub AllOn : {C K : Type 0} → K → (C → Type 0) → List (At C K) → Type 0
AllOn k D [] = Unit {0}
AllOn k D (v ∷ r) = D v.corner × (v.on ≡ k) × AllOn k D r

-- round a ring a potential goes
module _ {C K : Type 0} (h : EdgeForm C K) (k : K) (D : C → Type 0) (u : C → Balance) (n m : C → C → ℕ) (g : Balance)
    (law : (p q : C) → D p → D q → h p q k ≈ u q ∸ u p ∔ n p q ⨯ g ∸ m p q ⨯ g)
  where
    first_has : (e : C) → D e → (l : List (At C K)) → AllOn k D l → D (head_or e l)
    first_has e de [] a = de
    first_has e de (v ∷ r) a = a.0

    open_turns : (e : C) → D e → (l : List (At C K)) → AllOn k D l
        → total h (edges_to e l) ∔ u (head_or e l) ≈ u e ∔ count_over n (edges_to e l) ⨯ g ∸ count_over m (edges_to e l) ⨯ g
    open_turns e de [] a = omega arith
    open_turns e de (v ∷ r) a = rw a.1 (omega (arith, law v.corner (head_or e r) a.0 (first_has e de r a.2), open_turns e de r a.2))

    pub ring_turns : (l : List (At C K)) → AllOn k D l → sum_over h l ≈ count_over n (ring_edges l) ⨯ g ∸ count_over m (ring_edges l) ⨯ g
    ring_turns [] a = omega arith
    ring_turns (v ∷ r) a = omega (arith, open_turns v.corner a.0 (v ∷ r) a)

-- the line at infinity, carrier k, before all cuts, between corners of which D holds: it crosses the first side t at its corner or, where it `passes` there, at d, and what is
-- left of it past t crosses each later side in one corner
pub record AtInfinity {C K : Type 0} (t : Fence C K) (r : List (Fence C K)) (k : K) (d : C) (passes : C → C → Bool) (D : C → Type 0) : Type 1 where
  pub Left : C → Type 0
  pub stays : (p : C) → D p → t.side.within p ≡ true → Left p
  pub first : Left (t.corner k)
  pub second : Left d
  pub meets : (p q : C) → D p → D q → (t.side.within p ≡ t.side.within q → ⊥) → t.side.meet p q k ≡ cond (passes p q) d (t.corner k)
  pub narrows : Narrows r k Left

-- what one turn adds
abbrev pub turn_adds : {C K : Type 0} → Fence C K → List (Fence C K) → K → (C → Balance) → C → Balance
turn_adds t r k u d = one_turn (potential_of r t.side.along t.potential) (potential_of r k u) (t.corner k) d

module _ {C K : Type 0} (h : EdgeForm C K) (k : K) (u : C → Balance) (pot : Potential h k u) (t : Fence C K) (r : List (Fence C K)) (d : C) (passes : C → C → Bool)
    (D : C → Type 0) (line : AtInfinity t r k d passes D)
  where
    pub far_edge : (p q : C) → D p → D q → before_all (t ∷ r) h p q k ≈ potential_of (t ∷ r) k u q ∸ potential_of (t ∷ r) k u p
        ∔ comes_there t.side passes p q ⨯ turn_adds t r k u d ∸ goes_there t.side passes p q ⨯ turn_adds t r k u d
    far_edge =
        before_turning t.side (before_all r h) (potential_of r t.side.along t.potential) (potential_of r k u) k D line.Left line.stays (t.corner k) d
        line.first line.second passes line.meets (far_potential h k u pot r line.Left line.narrows)

    pub far_ring : (l : List (At C K)) → AllOn k D l → sum_over (before_all (t ∷ r) h) l
        ≈ count_over (comes_there t.side passes) (ring_edges l) ⨯ turn_adds t r k u d ∸ count_over (goes_there t.side passes) (ring_edges l) ⨯ turn_adds t r k u d
    far_ring = ring_turns (before_all (t ∷ r) h) k D (potential_of (t ∷ r) k u) (comes_there t.side passes) (goes_there t.side passes) (turn_adds t r k u d) far_edge
