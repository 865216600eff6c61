-- The neighbours of a site of an accepted mesh are exactly the sites that a half-edge joins to it: the walk passes each half-edge that ends there, and where one that
-- starts there is unpaired the walk ends before it and its end is added.
use Rattle.std.specs.Prelude.{◌≡◌, refl, Bool, ◌⊎◌, eqb, Float}
use Rattle.std.proofs.Math.Path.{sym, ap, subst}
use Rattle.std.proofs.Common.{◌∙◌, arith, eq-eqb}
use Rattle.std.proofs.Math.Bool.{true, false}
use mathlib.Core.List.{List, [], ◌∷◌}
use Rattle.std.proofs.Math.Logic.{inl, inr, ⊎_elim}
use Prim.Native.Nat.{ℕ, zero, suc, ◌<◌}
use Rattle.std.proofs.Math.ListN.{length, get_or}
use Rattle.base.specs.numbers.Numbers.{EMPTY}
use Rattle.base.specs.common.Pick.{pick}
use Rattle.base.specs.common.laws.Decide.{lt_or_ge}
use Rattle.base.specs.common.Count.{occ}
use Rattle.base.specs.common.laws.Count.{same_cases}
use Rattle.mesh.specs.Mesh.{next_of, start_of, end_of, pair_of, around, turn_of, walk_of, whole_of, leftmost_of}
use Rattle.mesh.specs.Accepted.{mesh, Accepted, site_count}
use Rattle.mesh.specs.laws.Facts.{topology, paired, next_in, walk_each, walk_only}
use Rattle.mesh.specs.laws.WalkSteps.{walk_go, walk_done}
use Rattle.mesh.specs.laws.Next.{next_thrice}
use Rattle.walks.specs.neighbours.Neighbours.{last_end, starts_of, neighbours_of}
use Rattle.mesh.specs.laws.Occurs.{occ_there}

-- a half-edge from the one site to the other, either way
abbrev pub Joins : List ℕ → ℕ → ℕ → ℕ → Type 0
Joins tri s v e = ((start_of tri e ≡ v) × (end_of tri e ≡ s)) ⊎ ((start_of tri e ≡ s) × (end_of tri e ≡ v))

head_in : (v x : ℕ) (l : List ℕ) → v ≡ x → 0 < occ v (x ∷ l)
head_in v x l q = subst (λ (k : ℕ). 0 < occ k (x ∷ l)) (sym q) (occ_there (x ∷ l) 0 (omega arith))

tail_in : (v x : ℕ) (l : List ℕ) → 0 < occ v l → 0 < occ v (x ∷ l)
tail_in v x l h = omega arith

-- in a list with a head: it is the head, or it is in the rest
at_head : (v x : ℕ) (l : List ℕ) → 0 < occ v (x ∷ l) → (v ≡ x) ⊎ (0 < occ v l)
at_head v x l h = ⊎_elim (λ w. inl w.0) (λ w. inr (omega (arith, w.1))) (same_cases v x)

module _ (tri he : List ℕ) where
  -- ---- each start along the list stands among the starts
  start_in : (e : ℕ) (es : List ℕ) → 0 < occ e es → 0 < occ (start_of tri e) (starts_of tri he es)
  unfolding starts_of
  start_in e [] h = absurd (omega arith)
  start_in e (x ∷ []) h = ⊎_elim (λ q. head_in (start_of tri e) (start_of tri x) (last_end tri he x) (ap (start_of tri) q)) (λ g. absurd (omega arith)) (at_head e x [] h)
  start_in e (x ∷ y ∷ es) h =
      let rest = starts_of tri he (y ∷ es) in
      ⊎_elim (λ q. head_in (start_of tri e) (start_of tri x) rest (ap (start_of tri) q)) (λ g. tail_in (start_of tri e) (start_of tri x) rest (start_in e (y ∷ es) g)) (at_head e x (y ∷ es) h)

  starts_more : (v e : ℕ) (es : List ℕ) → 0 < occ v (starts_of tri he es) → 0 < occ v (starts_of tri he (e ∷ es))
  unfolding starts_of
  starts_more v e [] h = absurd (omega arith)
  starts_more v e (f ∷ es) h = tail_in v (start_of tri e) (starts_of tri he (f ∷ es)) h

  -- ---- where the walk meets none, the last end is added
  module _ (small : length he < EMPTY) (t : ℕ) where
    last_one : (e : ℕ) → around he e ≡ EMPTY → 0 < occ (end_of tri (next_of e)) (starts_of tri he (e ∷ []))
    unfolding starts_of last_end
    last_one e q = rw (eq-eqb (around he e) EMPTY q) (tail_in _ (start_of tri e) (end_of tri (next_of e) ∷ []) (head_in _ _ [] refl))

    ended : (k e : ℕ) → around he e ≡ EMPTY → walk_of he t k (turn_of he t e) ≡ []
    unfolding turn_of
    ended k e q = rw q (go (eqb EMPTY t))
      where
        go : (b : Bool) → walk_of he t k (pick {A = ℕ} b (λ _. EMPTY) (λ _. EMPTY)) ≡ []
        go true = walk_done he t k EMPTY (omega arith)
        go false = walk_done he t k EMPTY (omega arith)

    end_in : (k e f : ℕ) → around he f ≡ EMPTY → 0 < occ f (walk_of he t k e) → 0 < occ (end_of tri (next_of f)) (starts_of tri he (walk_of he t k e))
    unfolding walk_of
    end_in zero e f q h = absurd (omega arith)
    end_in (suc k) e f q h =
        ⊎_elim
        (λ l. rw (walk_go he t k e l) (⊎_elim
        (λ z. rw (← z, ended k f q) (last_one f q))
        (λ g. starts_more _ e _ (end_in k (turn_of he t e) f q g))
        (at_head f e (walk_of he t k (turn_of he t e)) (rw (walk_go he t k e l) at h))))
        (λ l. absurd (omega (arith, rw (walk_done he t (suc k) e l) at h)))
        (lt_or_ge e (length he))

  -- ---- and nothing else stands among the starts
  module _ (closed : (e : ℕ) → e < length he → next_of e < length he) (s v : ℕ) where
    from_last : (e : ℕ) → e < length he → end_of tri e ≡ s → 0 < occ v (last_end tri he e) → (e : ℕ) × (e < length he) × Joins tri s v e
    unfolding last_end
    from_last e l q h = go (eqb (around he e) EMPTY) h
      where
        go : (b : Bool) → 0 < occ v (pick {A = List ℕ} b (λ _. end_of tri (next_of e) ∷ []) (λ _. [])) → (e : ℕ) × (e < length he) × Joins tri s v e
        go true g = ⊎_elim (λ z. (next_of e, closed e l, inr (q, sym z))) (λ z. absurd (omega arith)) (at_head v (end_of tri (next_of e)) [] g)
        go false g = absurd (omega arith)

    from_starts : (es : List ℕ) → ((e : ℕ) → 0 < occ e es → (e < length he) × (end_of tri e ≡ s)) → 0 < occ v (starts_of tri he es) → (e : ℕ) × (e < length he) × Joins tri s v e
    unfolding starts_of
    from_starts [] all h = absurd (omega arith)
    from_starts (e ∷ []) all h =
        let a = all e (head_in e e [] refl) in
        ⊎_elim (λ z. (e, a.0, inl (sym z, a.1))) (λ g. from_last e a.0 a.1 g) (at_head v (start_of tri e) (last_end tri he e) h)
    from_starts (e ∷ f ∷ es) all h =
        let a = all e (head_in e e (f ∷ es) refl) in
        ⊎_elim (λ z. (e, a.0, inl (sym z, a.1))) (λ g. from_starts (f ∷ es) (λ x o. all x (tail_in x e (f ∷ es) o)) g) (at_head v (start_of tri e) (starts_of tri he (f ∷ es)) h)

module _ {sites : List Float} {tri he hull : List ℕ} (a : Accepted (mesh sites tri he hull)) (s : ℕ) (below : s < site_count sites) (v : ℕ) where
  pub neighbour_joined : 0 < occ v (neighbours_of tri he (leftmost_of tri he (site_count sites)) s) → (e : ℕ) × (e < length he) × Joins tri s v e
  unfolding neighbours_of
  neighbour_joined h = from_starts tri he (λ e l. next_in (topology a) l) s v _ (walk_only (topology a) s below) h

  passes : (e : ℕ) → e < length he → start_of tri e ≡ v → end_of tri e ≡ s → 0 < occ v (neighbours_of tri he (leftmost_of tri he (site_count sites)) s)
  unfolding neighbours_of
  passes e l q z =
      let walk = whole_of he (get_or (leftmost_of tri he (site_count sites)) s 0) in
      rw q at (start_in tri he e walk (omega (arith, walk_each (topology a) s below e l z)))

  leaves : (e : ℕ) → e < length he → start_of tri e ≡ s → end_of tri e ≡ v → 0 < occ v (neighbours_of tri he (leftmost_of tri he (site_count sites)) s)
  unfolding neighbours_of
  leaves e l q z =
      let t = get_or (leftmost_of tri he (site_count sites)) s 0 in
      let f = next_of (next_of e) in
      let in_he : f < length he = next_in (topology a) (next_in (topology a) l) in
      let there : next_of f ≡ e = next_thrice e in
      let ends : end_of tri f ≡ s = ap (λ x. get_or tri x 0) there ∙ q in
      ⊎_elim
      (λ none. subst (λ x. 0 < occ x (starts_of tri he (whole_of he t))) (ap (end_of tri) there ∙ z)
      (end_in tri he (paired (topology a)).small t (length he) t f (ap (pair_of he) there ∙ none) (omega (arith, walk_each (topology a) s below f in_he ends))))
      (λ m. passes (pair_of he e) m.inside (m.from ∙ z) (m.to ∙ q))
      ((paired (topology a)).pairs e l)

  pub joined_neighbour : (e : ℕ) × (e < length he) × Joins tri s v e → 0 < occ v (neighbours_of tri he (leftmost_of tri he (site_count sites)) s)
  joined_neighbour x = ⊎_elim (λ q. passes x.0 x.1 q.0 q.1) (λ q. leaves x.0 x.1 q.0 q.1) x.2
