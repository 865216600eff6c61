-- A ring cut by one side (Sutherland and Hodgman), and what a sum over the cut ring is on the ring before. Definitions only.
use Rattle.std.specs.Prelude.{Bool, true, false, List, [], ◌∷◌, ◌++◌}
use Rattle.cutting.specs.cuts.Numbers.{Balance, none, ◌∔◌, ◌∸◌}
use Rattle.cutting.specs.cuts.Rings.{At, EdgeForm, head_or}

-- a side: which corners are within it, where an edge from p to q that lies on k crosses it, and the carrier of what is put in along it
pub record Side (C K : Type 0) : Type 0 where
  pub within : C → Bool
  pub meet : C → C → K → C
  pub along : K

-- what is left of the edge from p to q: p where it is within, and the crossing where one of the two is; it goes on along the side where the edge leaves, and
-- on the edge's own carrier where it enters
abbrev pub kept_by : {C K : Type 0} → Bool → Bool → Side C K → At C K → C → List (At C K)
kept_by true true s p q = p ∷ []
kept_by true false s p q = p ∷ record { corner = s.meet p.corner q p.on; on = s.along } ∷ []
kept_by false true s p q = record { corner = s.meet p.corner q p.on; on = p.on } ∷ []
kept_by false false s p q = []

abbrev pub kept : {C K : Type 0} → Side C K → At C K → C → List (At C K)
kept s p q = kept_by (s.within p.corner) (s.within q) s p q

-- what is left of all edges from corner to corner of a list, and from its last on to e
abbrev pub cut_to : {C K : Type 0} → Side C K → C → List (At C K) → List (At C K)
cut_to s e [] = []
cut_to s e (p ∷ r) = kept s p (head_or e r) ++ cut_to s e r

-- a ring cut by a side
abbrev pub cut_by : {C K : Type 0} → Side C K → List (At C K) → List (At C K)
cut_by s [] = []
cut_by s (p ∷ r) = cut_to s p.corner (p ∷ r)

-- h as it is before the cut, with U its potential along the side: of an edge that leaves at m its part up to m less U there, of one that enters U there and its part
-- from m on, and of one that is out nothing
abbrev pub before_by : {C K : Type 0} → Bool → Bool → Side C K → (C → Balance) → EdgeForm C K → EdgeForm C K
before_by true true s U h p q k = h p q k
before_by true false s U h p q k = h p (s.meet p q k) k ∸ U (s.meet p q k)
before_by false true s U h p q k = U (s.meet p q k) ∔ h (s.meet p q k) q k
before_by false false s U h p q k = none

abbrev pub before_cut : {C K : Type 0} → Side C K → (C → Balance) → EdgeForm C K → EdgeForm C K
before_cut s U h p q k = before_by (s.within p) (s.within q) s U h p q k
