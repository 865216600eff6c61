-- Walks on a mesh whose pairing is right: they end, list no half-edge twice, stay at one site, and list what is reached.
use Rattle.std.specs.Prelude.{◌≡◌, List, [], ◌∷◌, Bool, true, false, ◌⊎◌, ◌≢◌, eqb, length}
use Rattle.std.proofs.Math.Path.{refl, ap}
use Rattle.std.proofs.Common.{sym, ◌∙◌, inl, inr, add-zero, eqb-true}
use Rattle.std.proofs.Math.Logic.{⊎_elim}
use Prim.Native.Nat.{ℕ, zero, suc, ◌+◌, ◌-◌, ◌≤◌, ◌<◌}
use native.Mathlib.Omega.{arith}
use Rattle.std.proofs.lemmas.Bool.{eqb-false}
use Rattle.base.specs.common.Pick.{pick}
use Rattle.base.specs.common.laws.Decide.{lt_or_ge}
use Rattle.base.specs.common.Count.{occ}
use Rattle.base.specs.common.laws.Count.{same_cases, pigeonhole}
use Rattle.base.specs.numbers.Numbers.{EMPTY}
use Rattle.mesh.specs.Mesh.{next_of, end_of, pair_of, Mates, around, turn_of, walk_of, Reached, here, onward, whole_of, Paired}
use Rattle.mesh.specs.laws.Next.{next_lt, next_inj}
use Rattle.mesh.specs.laws.WalkSteps.{walk_go, walk_done}

pub turn_cases : (he : List ℕ) (s e : ℕ) → ((around he e ≡ s) × (turn_of he s e ≡ EMPTY)) ⊎ ((around he e ≢ s) × (turn_of he s e ≡ around he e))
unfolding turn_of
turn_cases he s e = go (eqb (around he e) s) refl
  where
    go : (b : Bool) → eqb (around he e) s ≡ b → ((around he e ≡ s) × (pick b (λ _. EMPTY) (λ _. around he e) ≡ EMPTY)) ⊎
        ((around he e ≢ s) × (pick b (λ _. EMPTY) (λ _. around he e) ≡ around he e))
    go true h = inl (eqb-true _ _ h, refl)
    go false h = inr (eqb-false _ _ h, refl)

module _ (tri he : List ℕ) (ok : Paired tri he) where
  -- the pair of the next half-edge, where there is one
  pub mate : (e : ℕ) → e < length he → around he e ≢ EMPTY → Mates tri he (next_of e) (around he e)
  mate e l n = ⊎_elim (λ w. absurd (n w)) (λ w. w) (ok.pairs (next_of e) (next_lt ok.threes l))

  around_inj : (a b : ℕ) → a < length he → b < length he → around he a ≢ EMPTY → around he a ≡ around he b → a ≡ b
  around_inj a b la lb n q =
      next_inj (sym (mate a la n).back ∙ ap (pair_of he) q ∙ (mate b lb (λ z. n (q ∙ z))).back)

  -- a step of the walk: it stays at the site, it is injective, and it does not come to the start
  pub turn_there : (s e : ℕ) → turn_of he s e < length he → turn_of he s e ≡ around he e
  turn_there s e l = ⊎_elim (λ w. absurd (omega (arith, ok.small, w.1))) (λ w. w.1) (turn_cases he s e)

  pub turn_end : (s e : ℕ) → e < length he → turn_of he s e < length he → end_of tri (turn_of he s e) ≡ end_of tri e
  turn_end s e le l =
      let q = turn_there s e l in
      rw q (mate e le (omega (arith, ok.small))).to

  pub turn_inj : (s a b : ℕ) → a < length he → b < length he → turn_of he s a < length he → turn_of he s a ≡ turn_of he s b → a ≡ b
  turn_inj s a b la lb l q =
      let p = turn_there s a l in
      let r = turn_there s b (omega arith) in
      around_inj a b la lb (omega (arith, ok.small)) (cc)

  pub turn_start : (s e : ℕ) → s < length he → turn_of he s e ≢ s
  turn_start s e l q = ⊎_elim (λ w. omega (arith, ok.small)) (λ w. w.0 (sym w.1 ∙ q)) (turn_cases he s e)

-- the half-edge after k steps
pos_of : List ℕ → ℕ → ℕ → ℕ
pos_of he s zero = s
pos_of he s (suc k) = turn_of he s (pos_of he s k)

-- opened at its first half-edge
walk_cases : (he : List ℕ) (s n e : ℕ) → ((e < length he) × (walk_of he s (suc n) e ≡ e ∷ walk_of he s n (turn_of he s e))) ⊎ ((length he ≤ e) × (walk_of he s (suc n) e ≡ []))
walk_cases he s n e = ⊎_elim (λ l. inl (l, walk_go he s n e l)) (λ l. inr (l, walk_done he s (suc n) e l)) (lt_or_ge e (length he))

-- where the walk ends by itself within n steps, one more changes nothing
walk_more : (he : List ℕ) (s n e : ℕ) → length (walk_of he s (suc n) e) ≤ n → walk_of he s (suc n) e ≡ walk_of he s n e
unfolding walk_of
walk_more he s zero e h = ⊎_elim (λ w. absurd (omega (arith, ap length w.1))) (λ w. w.1) (walk_cases he s zero e)
walk_more he s (suc n) e h =
    ⊎_elim
    (λ w. w.1 ∙ ap (λ l. e ∷ l) (walk_more he s n (turn_of he s e) (omega (arith, ap length w.1))) ∙ sym (walk_go he s n e w.0))
    (λ w. w.1 ∙ sym (walk_done he s (suc n) e w.0))
    (walk_cases he s (suc n) e)

module _ (tri he : List ℕ) (ok : Paired tri he) (s : ℕ) (in_mesh : s < length he) where
  -- no half-edge comes again
  no_return : (i j : ℕ) → i < j → ((k : ℕ) → k ≤ j → pos_of he s k < length he) → pos_of he s i ≢ pos_of he s j
  unfolding pos_of
  no_return i zero l alive q = omega arith
  no_return zero (suc j) l alive q = turn_start tri he ok s (pos_of he s j) in_mesh (sym q)
  no_return (suc i) (suc j) l alive q =
      no_return i j (omega arith) (λ k h. alive k (omega arith)) (turn_inj tri he ok s _ _ (alive i (omega arith)) (alive j (omega arith)) (alive (suc i) (omega arith)) q)

  alive_more : (i : ℕ) → ((k : ℕ) → k < i → pos_of he s k < length he) → pos_of he s i < length he → (k : ℕ) → k < suc i → pos_of he s k < length he
  alive_more i alive now k l = ⊎_elim (λ w. rw w.0 now) (λ w. alive k (omega arith)) (same_cases k i)

  -- what was passed is not in the rest of the walk
  passed : (n i j : ℕ) → j < i → ((k : ℕ) → k < i → pos_of he s k < length he) → occ (pos_of he s j) (walk_of he s n (pos_of he s i)) ≡ 0
  unfolding walk_of pos_of
  passed zero i j l alive = refl
  passed (suc n) i j l alive =
      ⊎_elim
      (λ w.
      let more = alive_more i alive w.0 in
      rw w.1 (⊎_elim
      (λ u. absurd (no_return j i l (λ k h. more k (omega arith)) u.0))
      (λ u. omega (arith, passed n (suc i) j (omega arith) more))
      (same_cases (pos_of he s j) (pos_of he s i))))
      (λ w. rw w.1)
      (walk_cases he s n (pos_of he s i))

  -- no half-edge is in the walk twice
  once : (n i v : ℕ) → ((k : ℕ) → k < i → pos_of he s k < length he) → occ v (walk_of he s n (pos_of he s i)) ≤ 1
  unfolding walk_of pos_of
  once zero i v alive = omega arith
  once (suc n) i v alive =
      ⊎_elim
      (λ w.
      let more = alive_more i alive w.0 in
      rw w.1 (⊎_elim
      (λ u.
      let rest : occ v (walk_of he s n (pos_of he s (suc i))) ≡ 0 = rw u.0 (passed n (suc i) i (omega arith) more) in
      omega (arith, rest, u.1))
      (λ u. omega (arith, once n (suc i) v more))
      (same_cases v (pos_of he s i))))
      (λ w. rw w.1 (omega arith))
      (walk_cases he s n (pos_of he s i))

-- what a walk lists is in the mesh, ends where the walk's first half-edge ends, and is reached
module _ (tri he : List ℕ) (ok : Paired tri he) (s : ℕ) where
  pub walk_in : (n e v : ℕ) → 0 < occ v (walk_of he s n e) → e < length he
  unfolding walk_of
  walk_in zero e v h = absurd (omega arith)
  walk_in (suc n) e v h = ⊎_elim (λ w. w.0) (λ w. absurd (omega (arith, ap (occ v) w.1))) (walk_cases he s n e)

  pub walk_ends : (n e v : ℕ) → 0 < occ v (walk_of he s n e) → (v < length he) × (end_of tri v ≡ end_of tri e)
  unfolding walk_of
  walk_ends zero e v h = absurd (omega arith)
  walk_ends (suc n) e v h =
      ⊎_elim
      (λ w. ⊎_elim
      (λ u. rw u.0 (w.0, refl))
      (λ u.
      let p : 0 < occ v (walk_of he s n (turn_of he s e)) = omega (arith, ap (occ v) w.1) in
      let r = walk_ends n (turn_of he s e) v p in
      (r.0, r.1 ∙ turn_end tri he ok s e w.0 (walk_in n _ v p)))
      (same_cases v e))
      (λ w. absurd (omega (arith, ap (occ v) w.1)))
      (walk_cases he s n e)

  pub walk_reached : (n e v : ℕ) → Reached he s e → 0 < occ v (walk_of he s n e) → Reached he s v
  unfolding walk_of
  walk_reached zero e v r h = absurd (omega arith)
  walk_reached (suc n) e v r h =
      ⊎_elim
      (λ w. ⊎_elim
      (λ u. rw u.0 r)
      (λ u.
      let p : 0 < occ v (walk_of he s n (turn_of he s e)) = omega (arith, ap (occ v) w.1) in
      walk_reached n (turn_of he s e) v (rw (turn_there tri he ok s e (walk_in n _ v p)) (onward w.0 r)) p)
      (same_cases v e))
      (λ w. absurd (omega (arith, ap (occ v) w.1)))
      (walk_cases he s n e)

  walk_first : (n e : ℕ) → e < length he → 0 < occ e (walk_of he s (suc n) e)
  walk_first n e l = rw (walk_go he s n e l) (⊎_elim (λ u. omega arith) (λ u. absurd (u.0 refl)) (same_cases e e))

  walk_next : (n e v : ℕ) → turn_of he s v < length he → 0 < occ v (walk_of he s n e) → 0 < occ (turn_of he s v) (walk_of he s (suc n) e)
  unfolding walk_of
  walk_next zero e v l h = absurd (omega arith)
  walk_next (suc n) e v l h =
      let p = walk_in (suc n) e v h in
      rw (walk_go he s (suc n) e p) (⊎_elim
      (λ u. rw (← u.0) (omega (arith, walk_first n (turn_of he s v) l)))
      (λ u. omega (arith, walk_next n (turn_of he s e) v l (omega (arith, ap (occ v) (walk_go he s n e p)))))
      (same_cases v e))

  -- the walk ends within as many steps as there are half-edges
  module _ (in_mesh : s < length he) where
    pub walk_short : (n : ℕ) → length (walk_of he s n s) ≤ length he
    unfolding pos_of
    walk_short n = pigeonhole (length he) (walk_of he s n s) (λ v h. (walk_ends n s v h).0) (λ v. once tri he ok s in_mesh n 0 v (λ k h. absurd (omega arith)))

    pub walk_whole : walk_of he s (suc (length he)) s ≡ whole_of he s
    walk_whole = walk_more he s (length he) s (walk_short (suc (length he)))

    more_fuel : (j : ℕ) → walk_of he s (length he + j) s ≡ whole_of he s
    more_fuel zero = rw add-zero
    more_fuel (suc j) =
        let q : length he + suc j ≡ suc (length he + j) = omega arith in
        rw q (walk_more he s (length he + j) s (omega (arith, walk_short (suc (length he + j)))) ∙ more_fuel j)

  -- the whole walk stops by its own rule: more fuel gives the same list
  pub walk_fuel : (k : ℕ) → length he ≤ k → walk_of he s k s ≡ whole_of he s
  walk_fuel k h =
      let q : k ≡ length he + (k - length he) = omega arith in
      ⊎_elim
      (λ l. rw q (more_fuel l (k - length he)))
      (λ l. walk_done he s k s l ∙ sym (walk_done he s (length he) s l))
      (lt_or_ge s (length he))

  -- what is reached is in the walk
  pub reached_walk : {v : ℕ} → Reached he s v → v < length he → 0 < occ v (whole_of he s)
  reached_walk here l = rw (← walk_whole l) (walk_first (length he) s l)
  reached_walk (onward {e} le r) l =
      let p = reached_walk r le in
      let m = walk_in (length he) s e p in
      ⊎_elim
      (λ w. rw (w.0, ← walk_whole m) (walk_first (length he) s m))
      (λ w. rw (← w.1, ← walk_whole m) (walk_next (length he) s e (rw w.1 l) p))
      (turn_cases he s e)

  -- no half-edge is in the whole walk twice
  pub whole_once : (v : ℕ) → occ v (whole_of he s) ≤ 1
  unfolding pos_of
  whole_once v =
      ⊎_elim
      (λ l. once tri he ok s l (length he) 0 v (λ k h. absurd (omega arith)))
      (λ l. rw (walk_done he s (length he) s l) (omega arith))
      (lt_or_ge s (length he))
