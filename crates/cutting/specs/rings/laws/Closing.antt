-- The rings of a mesh, by the names of their edges, are closed: each edge ends where the next begins (`ring_closed`).
use Rattle.std.specs.Prelude.{◌≡◌, refl, Bool, true, false, cond, List, [], ◌∷◌, ℕ, ◌/◌, length}
use Rattle.std.proofs.Common.{sym, ap, ◌∙◌, arith}
use Rattle.std.proofs.lemmas.Bool.{lt-leb}
use Rattle.mesh.specs.Mesh.{next_of, end_of, around}
use Rattle.mesh.specs.laws.Next.{next_sum}
use Rattle.cutting.specs.cuts.Rings.{RingEdge, head_or}
use Rattle.cutting.specs.cuts.Named.{EdgeName, ray, far, named_ring, ChainedEdges, ClosedEdges}
use Rattle.cutting.specs.rings.Linked.{WalkLinked}
use Rattle.cutting.specs.rings.Names.{on_hull, names_from, ring_names, edge_of}

pub next_third : (e : ℕ) → next_of e / 3 ≡ e / 3
next_third e = omega (arith, next_sum e)

module _ {C K : Type 0} (tri he : List ℕ) (first : ℕ → ℕ) (center end : ℕ → C) (on : ℕ → K) (line : K) where
  abbrev edges_by : EdgeName → RingEdge C K
  edges_by = edge_of tri he first center end on line

  -- where the last half-edge of a walk leads
  abbrev pub LastEnds : C → List ℕ → Type 0
  LastEnds c [] = Unit {0}
  LastEnds c (e ∷ []) = (on_hull he (next_of e) ≡ false → center (around he e / 3) ≡ c) × (on_hull he (next_of e) ≡ true → end (first (end_of tri e)) ≡ c)
  LastEnds c (e ∷ f ∷ r) = LastEnds c (f ∷ r)

  head_from : (c : C) (f : ℕ) (r : List ℕ) → head_or c (named_ring edges_by (names_from he (f ∷ r))) ≡ center (next_of f / 3)
  head_from c f [] = refl
  head_from c f (g ∷ r) = refl

  chained : (t : ℕ) (c : C) (e : ℕ) (r : List ℕ) → WalkLinked he t (e ∷ r) → LastEnds c (e ∷ r) → ChainedEdges edges_by c (names_from he (e ∷ r))
  chained t c e [] l ends = go (on_hull he (next_of e)) ends.0 ends.1
    where
      go : (b : Bool) → (b ≡ false → center (around he e / 3) ≡ c) → (b ≡ true → end (first (end_of tri e)) ≡ c)
          → (cond b (end (next_of e)) (center (around he e / 3)) ≡ head_or c (named_ring edges_by (cond b (far (next_of e) ∷ []) []))) × ChainedEdges edges_by c (cond b (far (next_of e) ∷ []) [])
      go true f g = (refl, (g refl, tt))
      go false f g = (f refl, tt)
  chained t c e (f ∷ r) l ends = (
    rw (lt-leb (length he) (around he e) (rw l.0 l.1)) (ap (λ (n : ℕ). center (n / 3)) l.0 ∙ ap center (sym (next_third f)) ∙ sym (head_from c f r)),
    chained t c f r l.2 ends,
  )

  pub ring_closed : (t : ℕ) (r : List ℕ) → WalkLinked he t (t ∷ r) → LastEnds (cond (on_hull he t) (end t) (center (next_of t / 3))) (t ∷ r) → ClosedEdges edges_by (ring_names he t (t ∷ r))
  ring_closed t r l ends = go (on_hull he t) ends
    where
      ring_false : (r : List ℕ) → WalkLinked he t (t ∷ r) → LastEnds (center (next_of t / 3)) (t ∷ r) → ClosedEdges edges_by (names_from he (t ∷ r))
      ring_false [] l ends = chained t (center (next_of t / 3)) t [] l ends
      ring_false (f ∷ r) l ends = chained t (center (next_of t / 3)) t (f ∷ r) l ends

      go : (b : Bool) → LastEnds (cond b (end t) (center (next_of t / 3))) (t ∷ r) → ClosedEdges edges_by (cond b (ray t ∷ names_from he (t ∷ r)) (names_from he (t ∷ r)))
      go true ends = (ap center (sym (next_third t)) ∙ sym (head_from (end t) t r), chained t (end t) t r l ends)
      go false ends = ring_false r l ends
