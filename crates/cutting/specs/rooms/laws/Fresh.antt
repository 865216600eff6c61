-- Law: a ring has at most two fresh corners for each of its edges that lies on a bisector (`chain_fresh`), however often it was cut (`ring_chained`, `cut_bisected`). A corner is fresh where
-- a bisector crosses a side; the edge that it ends or begins is left of that bisector, and a cut leaves no more than one edge of each.
use Rattle.std.specs.Prelude.{◌≡◌, refl, Bool, true, false, List, [], ◌∷◌, ◌++◌, ℕ, ◌+◌, ◌*◌, ◌≤◌}
use Rattle.std.proofs.Common.{sym, ◌∙◌, true≢false, arith}
use Rattle.std.proofs.lemmas.Bool.{false≢true}
use Rattle.cutting.specs.cuts.Rings.{At, head_or, edges_to, ring_edges}
use Rattle.cutting.specs.cuts.Cut.{Side, kept_by, kept, cut_to, cut_by}
use Rattle.cutting.specs.cuts.Edges.{AllEdges}

abbrev pub flag : Bool → ℕ
flag true = 1
flag false = 0

-- fresh, and the edge from it on lies on no bisector: it ends an edge
abbrev ends_by : Bool → Bool → Bool
ends_by true f = false
ends_by false f = f

module _ {C K : Type 0} (fresh : C → Bool) (bisects : K → Bool) where
  -- how many corners are fresh, and how many edges lie on a bisector
  abbrev pub fresh_in : List (At C K) → ℕ
  fresh_in [] = 0
  fresh_in (v ∷ l) = flag (fresh v.corner) + fresh_in l

  abbrev pub bisected_in : List (At C K) → ℕ
  bisected_in [] = 0
  bisected_in (v ∷ l) = flag (bisects v.on) + bisected_in l

  -- a side that a corner is fresh on only where a bisector crosses it, of edges of which P holds, and that lies on no bisector itself
  pub record FreshBy (s : Side C K) (P : C → C → K → Type 0) : Type 0 where
    pub meets : (p q : C) (k : K) → P p q k → (s.within p ≡ s.within q → ⊥) → fresh (s.meet p q k) ≡ true → bisects k ≡ true
    pub beside : bisects s.along ≡ false

  abbrev ends : At C K → Bool
  ends v = ends_by (bisects v.on) (fresh v.corner)

  -- every corner that ends an edge comes after one that lies on a bisector; b is what the edge before the list does
  abbrev Chained : Bool → List (At C K) → Type 0
  Chained b [] = Unit {0}
  Chained b (v ∷ l) = (ends v ≡ true → b ≡ true) × Chained (bisects v.on) l

  abbrev last_by : Bool → List (At C K) → Bool
  last_by b [] = b
  last_by b (v ∷ l) = last_by (bisects v.on) l

  -- of a ring the edge before the first corner is the last one
  abbrev pub Chain : List (At C K) → Type 0
  Chain ring = Chained (last_by false ring) ring

  abbrev ends_in : List (At C K) → ℕ
  ends_in [] = 0
  ends_in (v ∷ l) = flag (ends v) + ends_in l

  -- each edge on a bisector has at most one such corner after it
  one_end : (e b : Bool) → (e ≡ true → b ≡ true) → flag e ≤ flag b
  one_end true b h = rw (h refl) (omega arith)
  one_end false b h = omega arith

  ends_paid : (b : Bool) (l : List (At C K)) → Chained b l → ends_in l + flag (last_by b l) ≤ flag b + bisected_in l
  ends_paid b [] c = omega arith
  ends_paid b (v ∷ l) c = omega (arith, one_end (ends v) b c.0, ends_paid (bisects v.on) l c.1)

  split : (k f : Bool) → flag f ≤ flag k + flag (ends_by k f)
  split true true = omega arith
  split true false = omega arith
  split false f = omega arith

  fresh_split : (l : List (At C K)) → fresh_in l ≤ bisected_in l + ends_in l
  fresh_split [] = omega arith
  fresh_split (v ∷ l) = omega (arith, split (bisects v.on) (fresh v.corner), fresh_split l)

  bisected_append : (k l : List (At C K)) → bisected_in (k ++ l) ≡ bisected_in k + bisected_in l
  bisected_append [] l = omega arith
  bisected_append (v ∷ k) l = omega (arith, bisected_append k l)

  module _ (s : Side C K) (P : C → C → K → Type 0) (ok : FreshBy s P) where
    -- a cut leaves at most one edge of each that lies on a bisector
    kept_bisected : (a b : Bool) (p : At C K) (q : C) → bisected_in (kept_by a b s p q) ≤ flag (bisects p.on)
    kept_bisected true true p q = omega arith
    kept_bisected true false p q = rw ok.beside (omega arith)
    kept_bisected false true p q = omega arith
    kept_bisected false false p q = omega arith

    to_bisected : (e : C) (l : List (At C K)) → bisected_in (cut_to s e l) ≤ bisected_in l
    to_bisected e [] = omega arith
    to_bisected e (p ∷ r) =
        omega (
          arith,
          bisected_append (kept s p (head_or e r)) (cut_to s e r),
          kept_bisected (s.within p.corner) (s.within (head_or e r)) p (head_or e r),
          to_bisected e r,
        )

    pub cut_bisected : (ring : List (At C K)) → bisected_in (cut_by s ring) ≤ bisected_in ring
    cut_bisected [] = omega arith
    cut_bisected (p ∷ r) = to_bisected p.corner (p ∷ r)

    -- what leaves ends the edge before it, and what enters begins one
    abbrev Crossed : At C K → C → Type 0
    Crossed p q = P p.corner q p.on × (s.within p.corner ≡ s.within q → ⊥)

    leaves : (p : At C K) (q : C) → Crossed p q → fresh (s.meet p.corner q p.on) ≡ true → bisects p.on ≡ true
    leaves p q x = ok.meets p.corner q p.on x.0 x.1

    no_end : (k f : Bool) → (f ≡ true → k ≡ true) → ends_by k f ≡ false
    no_end true f h = refl
    no_end false true h = sym (h refl)
    no_end false false h = refl

    enters : (p : At C K) (q : C) → Crossed p q → (b : Bool) → ends_by (bisects p.on) (fresh (s.meet p.corner q p.on)) ≡ true → b ≡ true
    enters p q x b h = absurd (false≢true (sym (no_end (bisects p.on) (fresh (s.meet p.corner q p.on)) (leaves p q x)) ∙ h))

    ended : (k f : Bool) → ends_by k f ≡ true → f ≡ true
    ended true f q = absurd (false≢true q)
    ended false f q = q

    -- the corners left of a list, after an edge that does b: where the first one is out that edge does not matter
    abbrev Before : Bool → Bool → Bool → Type 0
    Before true b c = b ≡ c
    Before false b c = Unit {0}

    chained : (e : C) (l : List (At C K)) (b c : Bool) → AllEdges P (edges_to e l) → Before (s.within (head_or e l)) b c → Chained b l → Chained c (cut_to s e l)
    chained e [] b c f w h = tt
    chained e (p ∷ r) b c f w h = go (s.within p.corner) (s.within (head_or e r)) refl refl w (λ d. chained e r (bisects p.on) d f.1)
      where
        differ : (a z : Bool) → s.within p.corner ≡ a → s.within (head_or e r) ≡ z → (a ≡ z → ⊥) → Crossed p (head_or e r)
        differ a z x y n = (f.0, λ q. n (sym x ∙ q ∙ y))

        go : (a z : Bool) → s.within p.corner ≡ a → s.within (head_or e r) ≡ z → Before a b c
            → ((d : Bool) → Before z (bisects p.on) d → Chained (bisects p.on) r → Chained d (cut_to s e r)) → Chained c (kept_by a z s p (head_or e r) ++ cut_to s e r)
        go true true x y w next = (λ q. sym w ∙ h.0 q, next (bisects p.on) refl h.1)
        go true false x y w next = (
          λ q. sym w ∙ h.0 q,
          (λ q. leaves p (head_or e r) (differ true false x y true≢false) (ended (bisects s.along) _ q), next (bisects s.along) tt h.1),
        )
        go false true x y w next = (enters p (head_or e r) (differ false true x y false≢true) c, next (bisects p.on) refl h.1)
        go false false x y w next = next c tt h.1

    -- where the list ends within the side, so does what is left of it, on the same carrier
    lasting : (e : C) (p : At C K) (r : List (At C K)) (b c : Bool) → s.within e ≡ true → last_by c (cut_to s e (p ∷ r)) ≡ last_by b (p ∷ r)
    lasting e p [] b c h = rw h (go (s.within p.corner))
      where
        go : (a : Bool) → last_by c (kept_by a true s p e ++ []) ≡ bisects p.on
        go true = refl
        go false = refl
    lasting e p (q ∷ r) b c h = go (s.within p.corner) (s.within q.corner) (λ d. lasting e q r (bisects p.on) d h)
      where
        go : (a z : Bool) → ((d : Bool) → last_by d (cut_to s e (q ∷ r)) ≡ last_by (bisects p.on) (q ∷ r))
            → last_by c (kept_by a z s p q.corner ++ cut_to s e (q ∷ r)) ≡ last_by b (p ∷ q ∷ r)
        go true true next = next (bisects p.on)
        go true false next = next (bisects s.along)
        go false true next = next (bisects p.on)
        go false false next = next c

    pub ring_chained : (ring : List (At C K)) → AllEdges P (ring_edges ring) → Chain ring → Chain (cut_by s ring)
    ring_chained [] f h = tt
    ring_chained (p ∷ r) f h = chained p.corner (p ∷ r) (last_by false (p ∷ r)) (last_by false (cut_to s p.corner (p ∷ r))) f (go (s.within p.corner) refl) h
      where
        go : (a : Bool) → s.within p.corner ≡ a → Before a (last_by false (p ∷ r)) (last_by false (cut_to s p.corner (p ∷ r)))
        go true q = sym (lasting p.corner p r false false q)
        go false q = tt

  pub chain_fresh : (ring : List (At C K)) → Chain ring → fresh_in ring ≤ 2 * bisected_in ring
  chain_fresh ring c = omega (arith, fresh_split ring, ends_paid (last_by false ring) ring c, closing ring)
    where
      closing : (l : List (At C K)) → flag (last_by (last_by false l) l) ≡ flag (last_by false l)
      closing [] = refl
      closing (v ∷ l) = refl

  no_fresh : (b : Bool) (l : List (At C K)) → fresh_in l ≡ 0 → Chained b l
  no_fresh b [] h = tt
  no_fresh b (v ∷ l) h = (λ q. absurd (go (bisects v.on) (fresh v.corner) q (omega arith)), no_fresh (bisects v.on) l (omega arith))
    where
      go : (k f : Bool) → ends_by k f ≡ true → flag f ≡ 0 → ⊥
      go true f q z = false≢true q
      go false true q z = omega arith
      go false false q z = false≢true q

  pub chain_begun : (ring : List (At C K)) → fresh_in ring ≡ 0 → Chain ring
  chain_begun ring none = no_fresh (last_by false ring) ring none
