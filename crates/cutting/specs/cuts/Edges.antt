-- Theorem: what holds of each edge of a ring, with its carrier, holds of each edge of the cut ring (`cut_edges`): that both ends lie on the carrier, that both are within the sides
-- so far. And where two forms agree on each edge their sums do (`same_form`).
use Rattle.std.specs.Prelude.{◌≡◌, refl, Bool, true, false, List, [], ◌∷◌, ◌++◌}
use Rattle.std.proofs.Common.{true≢false, arith}
use Rattle.std.proofs.lemmas.Bool.{false≢true}
use Rattle.cutting.specs.cuts.Numbers.{◌≈◌}
use Rattle.cutting.specs.cuts.Rings.{At, RingEdge, EdgeForm, head_or, edges_to, ring_edges, total}
use Rattle.cutting.specs.cuts.Cut.{Side, kept_by, cut_to, cut_by}
use Rattle.cutting.specs.cuts.Step.{first_kept}

abbrev pub AllEdges : {C K : Type 0} → (C → C → K → Type 0) → List (RingEdge C K) → Type 0
AllEdges P [] = Unit {0}
AllEdges P (e ∷ l) = P e.from e.to e.on × AllEdges P l

pub same_form : {C K : Type 0} (g h : EdgeForm C K) (l : List (RingEdge C K)) → AllEdges (λ p q k. g p q k ≈ h p q k) l → total g l ≈ total h l
same_form g h [] a = refl
same_form g h (e ∷ l) a = omega (arith, a.0, same_form g h l a.1)

-- an edge of which P holds leaves, of itself, edges of which Q holds, and a crossing of which M holds; and along the side Q holds from any such crossing to any other
pub record KeepsEdges {C K : Type 0} (s : Side C K) (P Q : C → C → K → Type 0) (M : C → Type 0) : Type 0 where
  pub inner : (p q : C) (k : K) → P p q k → s.within p ≡ true → s.within q ≡ true → Q p q k
  pub leaving : (p q : C) (k : K) → P p q k → s.within p ≡ true → s.within q ≡ false → Q p (s.meet p q k) k × M (s.meet p q k)
  pub entering : (p q : C) (k : K) → P p q k → s.within p ≡ false → s.within q ≡ true → Q (s.meet p q k) q k × M (s.meet p q k)
  pub side : (m n : C) → M m → M n → Q m n s.along

module _ {C K : Type 0} (s : Side C K) (P Q : C → C → K → Type 0) (M : C → Type 0) (leaves : KeepsEdges s P Q M) where
  open_edges : (f e : C) → (s.within f ≡ true → e ≡ f) → (s.within f ≡ false → M e) → (l : List (At C K)) → AllEdges P (edges_to f l)
      → AllEdges Q (edges_to e (cut_to s f l)) × (s.within (head_or f l) ≡ true → head_or e (cut_to s f l) ≡ head_or f l)
      × (s.within (head_or f l) ≡ false → M (head_or e (cut_to s f l)))
  open_edges f e closes crossed [] a = (tt, closes, crossed)
  open_edges f e closes crossed (p ∷ r) a = go (s.within p.corner) (s.within (head_or f r)) (cut_to s f r) refl refl (open_edges f e closes crossed r a.1)
    where
      q : C
      q = head_or f r

      go : (x y : Bool) (o : List (At C K)) → s.within p.corner ≡ x → s.within q ≡ y
          → AllEdges Q (edges_to e o) × (y ≡ true → head_or e o ≡ q) × (y ≡ false → M (head_or e o))
          → AllEdges Q (edges_to e (kept_by x y s p q ++ o)) × (x ≡ true → head_or e (kept_by x y s p q ++ o) ≡ p.corner)
          × (x ≡ false → M (head_or e (kept_by x y s p q ++ o)))
      go true true o v w i = ((rw (i.1 refl) (leaves.inner p.corner q p.on a.0 v w), i.0), λ _. refl, λ z. absurd (true≢false z))
      go true false o v w i =
          let c = leaves.leaving p.corner q p.on a.0 v w in
          ((c.0, (leaves.side (s.meet p.corner q p.on) (head_or e o) c.1 (i.2 refl), i.0)), λ _. refl, λ z. absurd (true≢false z))
      go false true o v w i =
          let c = leaves.entering p.corner q p.on a.0 v w in
          ((rw (i.1 refl) c.0, i.0), λ z. absurd (false≢true z), λ _. c.1)
      go false false o v w i = (i.0, λ z. absurd (false≢true z), λ _. i.2 refl)

  -- the first crossing where a list begins out
  abbrev FirstIs : List (At C K) → Type 0
  FirstIs [] = Unit {0}
  FirstIs (w ∷ o) = M w.corner

  first_crossing : (f : C) (l : List (At C K)) → AllEdges P (edges_to f l) → s.within (head_or f l) ≡ false → FirstIs (cut_to s f l)
  first_crossing f [] a = λ _. tt
  first_crossing f (p ∷ r) a = go (s.within p.corner) (s.within (head_or f r)) refl refl (first_crossing f r a.1)
    where
      q : C
      q = head_or f r

      go : (x y : Bool) → s.within p.corner ≡ x → s.within q ≡ y → (y ≡ false → FirstIs (cut_to s f r)) → x ≡ false → FirstIs (kept_by x y s p q ++ cut_to s f r)
      go true y v w i z = absurd (true≢false z)
      go false true v w i z = (leaves.entering p.corner q p.on a.0 v w).1
      go false false v w i z = i refl

  pub cut_edges : (ring : List (At C K)) → AllEdges P (ring_edges ring) → AllEdges Q (ring_edges (cut_by s ring))
  cut_edges [] a = tt
  cut_edges (p ∷ r) a = go (cut_to s f (p ∷ r)) (λ e c d. (open_edges f e c d (p ∷ r) a).0) (λ e. first_kept s p (head_or f r) e (cut_to s f r)) (first_crossing f (p ∷ r) a)
    where
      f : C
      f = p.corner

      go : (o : List (At C K)) → ((e : C) → (s.within f ≡ true → e ≡ f) → (s.within f ≡ false → M e) → AllEdges Q (edges_to e o))
          → ((e : C) → s.within f ≡ true → head_or e o ≡ f) → (s.within f ≡ false → FirstIs o) → AllEdges Q (ring_edges o)
      go [] i j k = tt
      go (w ∷ o) i j k = i w.corner (j w.corner) k
