-- Rings by the names of their edges. And the names of a mesh's edges: one for each half-edge, in the ring of the site where it starts, a ray from infinity for each half-edge on the hull, in
-- the ring of the site where it ends, and an edge at infinity for each site on the hull. Definitions only.
use Rattle.std.specs.Prelude.{◌≡◌, refl, Bool, true, false, cond, List, [], ◌∷◌, ◌++◌, map, ℕ, eqb}
use Rattle.std.proofs.Common.{ap, eqb-true, eq-eqb}
use Rattle.std.proofs.lemmas.Bool.{false≢true}
use Rattle.cutting.specs.cuts.Rings.{At, RingEdge, head_or}
use Rattle.cutting.specs.cuts.Pairs.{Test}

abbrev pub join_all : {A : Type 0} → List (List A) → List A
join_all [] = []
join_all (l ∷ r) = l ++ join_all r

-- ---- rings by the names of their edges
module _ {C K N : Type 0} (edge : N → RingEdge C K) where
  abbrev pub named_ring : List N → List (At C K)
  named_ring names = map (λ n. record { corner = (edge n).from; on = (edge n).on }) names

  -- each edge ends where the next begins, the last at e
  abbrev pub ChainedEdges : C → List N → Type 0
  ChainedEdges e [] = Unit {0}
  ChainedEdges e (n ∷ r) = ((edge n).to ≡ head_or e (named_ring r)) × ChainedEdges e r

  abbrev pub ClosedEdges : List N → Type 0
  ClosedEdges [] = Unit {0}
  ClosedEdges (n ∷ r) = ChainedEdges (edge n).from (n ∷ r)

  abbrev pub AllClosed : List (List N) → Type 0
  AllClosed [] = Unit {0}
  AllClosed (l ∷ r) = ClosedEdges l × AllClosed r

-- ---- the names of a mesh's edges
pub data EdgeName : Type 0 where
  out : ℕ → EdgeName
  ray : ℕ → EdgeName
  far : ℕ → EdgeName

abbrev pub same_name : EdgeName → EdgeName → Bool
same_name (out a) (out b) = eqb a b
same_name (out a) (ray b) = false
same_name (out a) (far b) = false
same_name (ray a) (out b) = false
same_name (ray a) (ray b) = eqb a b
same_name (ray a) (far b) = false
same_name (far a) (out b) = false
same_name (far a) (ray b) = false
same_name (far a) (far b) = eqb a b

pub same_is : (x y : EdgeName) → same_name x y ≡ true → x ≡ y
same_is (out a) (out b) e = ap out (eqb-true a b e)
same_is (out a) (ray b) e = absurd (false≢true e)
same_is (out a) (far b) e = absurd (false≢true e)
same_is (ray a) (out b) e = absurd (false≢true e)
same_is (ray a) (ray b) e = ap ray (eqb-true a b e)
same_is (ray a) (far b) e = absurd (false≢true e)
same_is (far a) (out b) e = absurd (false≢true e)
same_is (far a) (ray b) e = absurd (false≢true e)
same_is (far a) (far b) e = ap far (eqb-true a b e)

pub same_self : (x : EdgeName) → same_name x x ≡ true
same_self (out a) = eq-eqb a a refl
same_self (ray a) = eq-eqb a a refl
same_self (far a) = eq-eqb a a refl

abbrev pub by_name : Test EdgeName
by_name = record { same = same_name; same_is = same_is; same_self = same_self }

-- the half-edge across, where it is not on the hull
module _ (pair : ℕ → ℕ) (hull : ℕ → Bool) where
  abbrev pub opposite : EdgeName → EdgeName
  opposite (out o) = cond (hull o) (ray o) (out (pair o))
  opposite (ray o) = cond (hull o) (out o) (ray o)
  opposite (far s) = far s
