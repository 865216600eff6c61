-- The rings of a mesh by the names of their edges, and what the names stand for. Definitions only.
use Rattle.std.specs.Prelude.{Bool, cond, List, [], ◌∷◌, ℕ, ◌/◌, leb, length}
use Rattle.mesh.specs.Mesh.{next_of, start_of, pair_of}
use Rattle.cutting.specs.cuts.Rings.{RingEdge}
use Rattle.cutting.specs.cuts.Named.{EdgeName, out, ray, far}

-- half-edge o has no pair
abbrev pub on_hull : List ℕ → ℕ → Bool
on_hull he o = leb (length he) (pair_of he o)

abbrev pub last_names : List ℕ → ℕ → List EdgeName
last_names he e = cond (on_hull he (next_of e)) (far (next_of e) ∷ []) []

-- the edges of a ring from a walk's half-edges on: each next one, and after the last on the border the edge at infinity
abbrev pub names_from : List ℕ → List ℕ → List EdgeName
names_from he [] = []
names_from he (e ∷ []) = out (next_of e) ∷ last_names he e
names_from he (e ∷ f ∷ r) = out (next_of e) ∷ names_from he (f ∷ r)

-- the ring of the site whose walk begins at t
abbrev pub ring_names : List ℕ → ℕ → List ℕ → List EdgeName
ring_names he t [] = []
ring_names he t (e ∷ r) = cond (on_hull he t) (ray t ∷ names_from he (e ∷ r)) (names_from he (e ∷ r))

-- what the names stand for: the center of each triangle's circle, the end at infinity of each half-edge on the hull, what each half-edge's bisector is, and the carrier at infinity;
-- `first` is what the leftmost table holds of a site
module _ {C K : Type 0} (tri he : List ℕ) (first : ℕ → ℕ) (center end : ℕ → C) (on : ℕ → K) (line : K) where
  abbrev pub edge_of : EdgeName → RingEdge C K
  edge_of (out o) = record { from = center (o / 3); to = cond (on_hull he o) (end o) (center (pair_of he o / 3)); on = on o }
  edge_of (ray o) = record { from = end o; to = center (o / 3); on = on o }
  edge_of (far o) = record { from = end o; to = end (first (start_of tri o)); on = line }
