-- Rings given by the names of their edges, each ending where the next begins, have just those edges (`named_ring_lem`, `named_rings`). The opposite of an edge's opposite is the edge
-- (`opposite_twice`).
use Rattle.std.specs.Prelude.{◌≡◌, refl, Bool, true, false, cond, List, [], ◌∷◌, ◌++◌, map, ℕ}
use Rattle.std.proofs.Common.{ap, ◌∙◌}
use Rattle.cutting.specs.cuts.Rings.{RingEdge, head_or, edges_to, ring_edges, edges_of_all}
use Rattle.cutting.specs.cuts.Named.{join_all, named_ring, ChainedEdges, ClosedEdges, AllClosed, EdgeName, out, ray, far, opposite}

module _ {C K N : Type 0} (edge : N → RingEdge C K) where
  chained_edges : (e : C) (l : List N) → ChainedEdges edge e l → map edge l ≡ edges_to e (named_ring edge l)
  chained_edges e [] c = refl
  chained_edges e (n ∷ r) c = ap₂' (whole n c.0) (chained_edges e r c.1)
    where
      whole : (n : N) → (edge n).to ≡ head_or e (named_ring edge r) → edge n ≡ record { from = (edge n).from; to = head_or e (named_ring edge r); on = (edge n).on }
      whole n q = ap (λ (z : C). record { from = (edge n).from; to = z; on = (edge n).on }) q

      ap₂' : {x y : RingEdge C K} {l m : List (RingEdge C K)} → x ≡ y → l ≡ m → x ∷ l ≡ y ∷ m
      ap₂' p q = cc

  pub named_ring_lem : (l : List N) → ClosedEdges edge l → map edge l ≡ ring_edges (named_ring edge l)
  named_ring_lem [] c = refl
  named_ring_lem (n ∷ r) c = chained_edges (edge n).from (n ∷ r) c

  map_append : (l m : List N) → map edge (l ++ m) ≡ map edge l ++ map edge m
  map_append [] m = refl
  map_append (n ∷ l) m = ap (λ z. edge n ∷ z) (map_append l m)

  pub named_rings : (l : List (List N)) → AllClosed edge l → map edge (join_all l) ≡ edges_of_all (map (named_ring edge) l)
  named_rings [] c = refl
  named_rings (l ∷ r) c = map_append l (join_all r) ∙ cc (named_ring_lem l c.0, named_rings r c.1)

-- the half-edge across, where it is not on the hull
module _ (pair : ℕ → ℕ) (hull : ℕ → Bool) where
  pub opposite_twice : ((o : ℕ) → hull o ≡ false → (pair (pair o) ≡ o) × (hull (pair o) ≡ false)) → (n : EdgeName) → opposite pair hull (opposite pair hull n) ≡ n
  opposite_twice across (out o) = go (hull o) refl
    where
      go : (h : Bool) → hull o ≡ h → opposite pair hull (cond h (ray o) (out (pair o))) ≡ out o
      go true q = rw q refl
      go false q = rw (across o q).1 (ap out (across o q).0)
  opposite_twice across (ray o) = go (hull o) refl
    where
      go : (h : Bool) → hull o ≡ h → opposite pair hull (cond h (out o) (ray o)) ≡ ray o
      go true q = rw q refl
      go false q = rw q refl
  opposite_twice across (far s) = refl
