-- The whole path goes by the rule to its end. Distances fall, so no site comes twice; the sites in use are as many as its entries or more, so
-- it stops by its own rule.
use Rattle.std.specs.Prelude.{◌≡◌, List, [], ◌∷◌, ◌++◌, ◌⊎◌, ◌≢◌, T, length, get_or, take, Float}
use Rattle.std.proofs.Math.Path.{refl, sym, ap}
use Rattle.std.proofs.Common.{◌∙◌, subst, length-append, eq-eqb, ne_eqb}
use Rattle.std.proofs.Math.Logic.{inl, inr, ⊎_elim}
use Prim.Native.Nat.{ℕ, zero, suc, ◌+◌, ◌-◌, ◌≤◌, ◌<◌}
use native.Mathlib.Omega.{arith}
use Rattle.std.proofs.Math.Seq.{take-nil}
use Rattle.std.specs.Float.Ieee.{lt}
use Rattle.base.specs.common.laws.Decide.{lt_or_ge, eq_or_ne}
use Rattle.base.specs.common.Count.{same, occ}
use Rattle.base.specs.common.laws.Count.{same_cases, occ_append, weighed_le}
use Rattle.root.specs.laws.Order.{lt_never, lt_trans}
use Rattle.mesh.specs.Mesh.{next_of}
use Rattle.mesh.specs.laws.Next.{next_lt}
use Rattle.mesh.specs.laws.WalkSteps.{walk_done}
use Rattle.plane.specs.declared.points.Point.{Point}
use Rattle.walks.specs.neighbours.Neighbours.{starts_of, neighbours_of}
use Rattle.mesh.specs.laws.Occurs.{occ_there, occ_below}
use Rattle.walks.specs.neighbours.laws.Used.{neighbours_used}
use Rattle.walks.specs.paths.Path.{dist_of, nearest_of, hop_of, path_of, path_end, whole_path, last_of}
use Rattle.walks.specs.paths.PathRule.{FirstNearest, used_at, used_of, PathFrom, stops, hops}
use Rattle.walks.specs.paths.laws.Nearest.{Hop, nearest_hop, hop_stays, hop_moves, nearest_one, stays_one}
use Rattle.walks.specs.paths.laws.Used.{used_one, used_sum}
use Rattle.walks.specs.paths.PathNeeds.{Walkable, Towards}

module _ {d : ℕ → Float} {nb : ℕ → List ℕ} where
  -- there is one path from s
  pub path_one : {s : ℕ} {l m : List ℕ} → PathFrom d nb s l → PathFrom d nb s m → l ≡ m
  path_one (stops none) (stops _) = refl
  path_one (stops none) (hops g l r) = absurd (stays_one d _ _ _ none g l)
  path_one (hops g l r) (stops none) = absurd (stays_one d _ _ _ none g l)
  path_one (hops {s = s} {n = a} g l r) (hops {n = b} h m t) =
      let q : a ≡ b = nearest_one d (nb s) a b g h in
      ap (λ l. s ∷ l) (path_one r (rw (← q) at t))

  -- the path from a site on a path is the rest of it
  pub path_rest : {s : ℕ} {l : List ℕ} → PathFrom d nb s l → (a b : List ℕ) (v : ℕ) → l ≡ a ++ (v ∷ b) → PathFrom d nb v (v ∷ b)
  path_rest {s = s} (stops none) [] b v q =
      let e : s ≡ v = cc in
      let f : b ≡ [] = cc in
      rw (← e, f) (stops none)
  path_rest (stops none) (x ∷ a) b v q = absurd (omega (arith, ap length q, length-append a (v ∷ b)))
  path_rest {s = s} (hops {l = l} g h r) [] b v q =
      let e : s ≡ v = cc in
      let f : l ≡ b = cc in
      rw (← e, ← f) (hops g h r)
  path_rest (hops {l = l} g h r) (x ∷ a) b v q = path_rest r a b v (cc)

pub last_cons : (x : ℕ) (l : List ℕ) → 0 < length l → last_of (x ∷ l) ≡ last_of l
last_cons x l h =
    let q : length (x ∷ l) - 1 ≡ suc (length l - 1) = omega arith in
    rw q

module _ (sites : List Float) (tri he table : List ℕ) (p : Point) where
  -- a path at its first site
  pub path_stop : (k s : ℕ) → hop_of sites tri he table p s ≡ s → path_of sites tri he table p (suc k) s ≡ s ∷ []
  unfolding path_of
  path_stop k s q = rw (eq-eqb (hop_of sites tri he table p s) s q)

  pub path_go : (k s : ℕ) → hop_of sites tri he table p s ≢ s → path_of sites tri he table p (suc k) s ≡ s ∷ path_of sites tri he table p k (hop_of sites tri he table p s)
  unfolding path_of
  path_go k s q = rw (ne_eqb (hop_of sites tri he table p s) s q)

  path_some : (k s : ℕ) → 0 < length (path_of sites tri he table p (suc k) s)
  path_some k s =
      ⊎_elim
      (λ e. omega (arith, ap length (path_stop k s e)))
      (λ e. omega (arith, ap length (path_go k s e)))
      (eq_or_ne (hop_of sites tri he table p s) s)

  path_first : (s : ℕ) → path_of sites tri he table p 1 s ≡ s ∷ []
  unfolding path_of
  path_first s = ⊎_elim (λ e. path_stop zero s e) (λ e. path_go zero s e) (eq_or_ne (hop_of sites tri he table p s) s)

  -- the end with fuel k is the last of k + 1 entries
  end_last : (k s : ℕ) → last_of (path_of sites tri he table p (suc k) s) ≡ path_end sites tri he table p k s
  unfolding path_end
  end_last zero s = ap last_of (path_first s)
  end_last (suc k) s =
      let r = hop_of sites tri he table p s in
      ⊎_elim
      (λ e. rw (eq-eqb r s e) (ap last_of (path_stop (suc k) s e)))
      (λ e. rw (ne_eqb r s e) (ap last_of (path_go (suc k) s e) ∙ last_cons s (path_of sites tri he table p (suc k) r) (path_some k r) ∙ end_last k r))
      (eq_or_ne r s)

  -- a path with an allowance is the beginning of any longer one
  pub path_take : (k j s : ℕ) → path_of sites tri he table p k s ≡ take k (path_of sites tri he table p (k + j) s)
  unfolding path_of
  path_take zero j s = refl
  path_take (suc k) j s =
      let n = hop_of sites tri he table p s in
      let q : suc k + j ≡ suc (k + j) = omega arith in
      rw q (⊎_elim
      (λ e. path_stop k s e ∙ sym (ap (take (suc k)) (path_stop (k + j) s e) ∙ ap (λ l. s ∷ l) (take-nil k)))
      (λ e. path_go k s e ∙ ap (λ l. s ∷ l) (path_take k j n) ∙ sym (ap (take (suc k)) (path_go (k + j) s e)))
      (eq_or_ne n s))

  -- where the path ends by itself within k entries, more fuel changes nothing
  path_more : (k j s : ℕ) → length (path_of sites tri he table p (suc k) s) ≤ k → path_of sites tri he table p (k + j) s ≡ path_of sites tri he table p k s
  path_more zero j s h =
      ⊎_elim
      (λ e. absurd (omega (arith, ap length (path_stop zero s e))))
      (λ e. absurd (omega (arith, ap length (path_go zero s e))))
      (eq_or_ne (hop_of sites tri he table p s) s)
  path_more (suc k) j s h =
      let n = hop_of sites tri he table p s in
      let q : suc k + j ≡ suc (k + j) = omega arith in
      rw q (⊎_elim
      (λ e. path_stop (k + j) s e ∙ sym (path_stop k s e))
      (λ e. path_go (k + j) s e ∙ ap (λ l. s ∷ l) (path_more k j n (omega (arith, ap length (path_go (suc k) s e)))) ∙ sym (path_go k s e))
      (eq_or_ne n s))

  module _ (n : ℕ) (m : Walkable tri he table n) (t : Towards sites p n) where
    used_below : (s : ℕ) → 0 < occ s tri → s < n
    used_below s u = occ_below tri n s m.named u

    next_used : (s k : ℕ) → k < length (neighbours_of tri he table s) → 0 < occ (get_or (neighbours_of tri he table s) k 0) tri
    next_used s k h = neighbours_used tri he m.paired.threes m.even table s k h

    -- a hop obeys the rule, and goes to a site in use
    pub hop_is : (s : ℕ) → s < n → Hop (dist_of sites p) (neighbours_of tri he table s) s (hop_of sites tri he table p s)
    unfolding hop_of
    hop_is s l = nearest_hop sites p (neighbours_of tri he table s) s (t.numbers s l) (λ k h. t.numbers _ (used_below _ (next_used s k h)))

    goes : (s : ℕ) → s < n → hop_of sites tri he table p s ≢ s → FirstNearest (dist_of sites p) (neighbours_of tri he table s) (hop_of sites tri he table p s)
        × T (lt (dist_of sites p (hop_of sites tri he table p s)) (dist_of sites p s))
    goes s l e = hop_moves (hop_is s l) e

    pub goes_used : (s : ℕ) → s < n → hop_of sites tri he table p s ≢ s → 0 < occ (hop_of sites tri he table p s) tri
    goes_used s l e =
        let g = (goes s l e).0 in
        subst (λ v. 0 < occ v tri) g.there (next_used s g.place g.within)

    -- what stands on a path: its first site, and sites strictly nearer
    path_in : (k s v : ℕ) → s < n → 0 < occ v (path_of sites tri he table p k s) → (v ≡ s) ⊎ T (lt (dist_of sites p v) (dist_of sites p s))
    unfolding path_of
    path_in zero s v l o = absurd (omega arith)
    path_in (suc k) s v l o =
        let r = hop_of sites tri he table p s in
        let d = dist_of sites p in
        ⊎_elim
        (λ e. inl (only v s (subst (λ l. 0 < occ v l) (path_stop k s e) o)))
        (λ e. ⊎_elim
        (λ w. inl w.0)
        (λ w. ⊎_elim
        (λ q. inr (rw q (goes s l e).1))
        (λ q. inr (lt_trans (d v) (d r) (d s) q (goes s l e).1))
        (path_in k r v (used_below r (goes_used s l e)) (later v s (path_of sites tri he table p k r) w.1 (subst (λ l. 0 < occ v l) (path_go k s e) o))))
        (same_cases v s))
        (eq_or_ne r s)
      where
        only : (v s : ℕ) → 0 < occ v (s ∷ []) → v ≡ s
        only v s o = ⊎_elim (λ w. w.0) (λ w. absurd (omega (arith, w.1))) (same_cases v s)

        later : (v s : ℕ) (l : List ℕ) → same v s ≡ 0 → 0 < occ v (s ∷ l) → 0 < occ v l
        later v s l w o = omega arith

    path_used : (k s v : ℕ) → 0 < occ s tri → 0 < occ v (path_of sites tri he table p k s) → 0 < occ v tri
    unfolding path_of
    path_used zero s v u o = absurd (omega arith)
    path_used (suc k) s v u o =
        let r = hop_of sites tri he table p s in
        ⊎_elim
        (λ w. rw w.0 u)
        (λ w. ⊎_elim
        (λ e. absurd (omega (arith, w.1, ap (occ v) (path_stop k s e))))
        (λ e. path_used k r v (goes_used s (used_below s u) e) (omega (arith, w.1, ap (occ v) (path_go k s e))))
        (eq_or_ne r s))
        (same_cases v s)

    -- no site comes twice
    path_once : (k s v : ℕ) → s < n → occ v (path_of sites tri he table p k s) ≤ 1
    unfolding path_of
    path_once zero s v l = omega arith
    path_once (suc k) s v l =
        let r = hop_of sites tri he table p s in
        let d = dist_of sites p in
        ⊎_elim
        (λ e. ⊎_elim (λ w. omega (arith, w.1, ap (occ v) (path_stop k s e))) (λ w. omega (arith, w.1, ap (occ v) (path_stop k s e))) (same_cases v s))
        (λ e.
        let r-below = used_below r (goes_used s l e) in
        ⊎_elim
        (λ w. ⊎_elim
        (λ o. absurd (⊎_elim
        (λ q. e (sym q ∙ w.0))
        (λ q. lt_never (d s) (lt_trans (d s) (d r) (d s) (rw w.0 at q) (goes s l e).1))
        (path_in k r v r-below o)))
        (λ o. omega (arith, w.1, ap (occ v) (path_go k s e)))
        (lt_or_ge 0 (occ v (path_of sites tri he table p k r))))
        (λ w. omega (arith, w.1, path_once k r v r-below, ap (occ v) (path_go k s e)))
        (same_cases v s))
        (eq_or_ne r s)

    -- no more entries than sites in use
    path_short : (k s : ℕ) → 0 < occ s tri → length (path_of sites tri he table p k s) ≤ used_of tri n
    path_short k s u =
        let l = path_of sites tri he table p k s in
        weighed_le (used_at tri) n l (λ v o. used_below v (path_used k s v u o)) (λ v. ⊎_elim
        (λ o. omega (arith, path_once k s v (used_below s u), used_one tri v (path_used k s v u o)))
        (λ o. omega arith)
        (lt_or_ge 0 (occ v l)))

    -- where the path ends by itself it obeys the rule to its end
    path_runs : (k s : ℕ) → s < n → length (path_of sites tri he table p (suc k) s) ≤ k → PathFrom (dist_of sites p) (neighbours_of tri he table) s (path_of sites tri he table p k s)
    path_runs zero s l h =
        ⊎_elim
        (λ e. absurd (omega (arith, ap length (path_stop zero s e))))
        (λ e. absurd (omega (arith, ap length (path_go zero s e))))
        (eq_or_ne (hop_of sites tri he table p s) s)
    path_runs (suc k) s l h =
        let r = hop_of sites tri he table p s in
        ⊎_elim
        (λ e. rw (path_stop k s e) (stops (hop_stays (hop_is s l) e)))
        (λ e. rw (path_go k s e) (hops (goes s l e).0 (goes s l e).1 (path_runs k r (used_below r (goes_used s l e)) (omega (arith, ap length (path_go (suc k) s e))))))
        (eq_or_ne r s)

    -- a site is in use, or has no neighbour
    pub in_use_or_alone : (s : ℕ) → s < n → (0 < occ s tri) ⊎ (neighbours_of tri he table s ≡ [])
    unfolding neighbours_of starts_of
    in_use_or_alone s l =
        ⊎_elim
        (λ h. inl (subst (λ v. 0 < occ v tri) (m.ends s l h) (occ_there tri (next_of (get_or table s 0)) (rw (← m.even) (next_lt m.paired.threes h)))))
        (λ h. inr (rw (walk_done he (get_or table s 0) (length he) (get_or table s 0) h)))
        (lt_or_ge (get_or table s 0) (length he))

    alone_stays : (s : ℕ) → neighbours_of tri he table s ≡ [] → hop_of sites tri he table p s ≡ s
    unfolding hop_of nearest_of
    alone_stays s q = rw q

    pub used_some : (s : ℕ) → 0 < occ s tri → 0 < used_of tri n
    used_some s u =
        ⊎_elim
        (λ e. omega (arith, path_short 1 s u, ap length (path_stop zero s e)))
        (λ e. omega (arith, path_short 1 s u, ap length (path_go zero s e)))
        (eq_or_ne (hop_of sites tri he table p s) s)

    enough : (k s : ℕ) → s < n → 0 < k → used_of tri n ≤ k → length (path_of sites tri he table p (suc k) s) ≤ k
    enough k s l some h =
        ⊎_elim
        (λ u. omega (arith, path_short (suc k) s u))
        (λ q. omega (arith, ap length (path_stop k s (alone_stays s q))))
        (in_use_or_alone s l)

    room_enough : (s : ℕ) → s < n → used_of tri n ≤ length sites
    room_enough s l = omega (arith, used_sum tri n, t.room)

    -- the whole path obeys the rule to its end
    pub whole_runs : (s : ℕ) → s < n → PathFrom (dist_of sites p) (neighbours_of tri he table) s (whole_path sites tri he table p s)
    whole_runs s l = path_runs (length sites) s l (enough (length sites) s l (omega (arith, t.room)) (room_enough s l))

    -- it stops by its own rule: as much fuel as there are sites in use gives it, and so does more
    pub whole_same : (k s : ℕ) → s < n → 0 < k → used_of tri n ≤ k → path_of sites tri he table p k s ≡ whole_path sites tri he table p s
    whole_same k s l some h =
        let z = length sites in
        ⊎_elim
        (λ w. let q : z ≡ k + (z - k) = omega arith in sym (subst (λ x. path_of sites tri he table p x s ≡ path_of sites tri he table p k s) (sym q) (path_more k (z - k) s (enough k s l some h))))
        (λ w. let q : k ≡ z + (k - z) = omega arith in subst (λ x. path_of sites tri he table p x s ≡ path_of sites tri he table p z s) (sym q)
        (path_more z (k - z) s (enough z s l (omega (arith, t.room)) (room_enough s l))))
        (lt_or_ge k z)

    -- with an allowance: its beginning
    pub whole_take : (k s : ℕ) → s < n → path_of sites tri he table p k s ≡ take k (whole_path sites tri he table p s)
    whole_take k s l =
        path_take k (length sites) s ∙ ap (take k) (whole_same (k + length sites) s l (omega (arith, t.room)) (omega (arith, room_enough s l)))

    -- it has no more entries than there are sites in use, and lists no site twice
    pub whole_short : (s : ℕ) → 0 < occ s tri → length (whole_path sites tri he table p s) ≤ used_of tri n
    whole_short s u = path_short (length sites) s u

    pub whole_once : (s v : ℕ) → s < n → occ v (whole_path sites tri he table p s) ≤ 1
    whole_once s v l = path_once (length sites) s v l

    pub whole_alone : (s : ℕ) → s < n → neighbours_of tri he table s ≡ [] → whole_path sites tri he table p s ≡ s ∷ []
    whole_alone s l q =
        sym (whole_same (suc (used_of tri n)) s l (omega arith) (omega arith)) ∙ path_stop (used_of tri n) s (alone_stays s q)

    pub whole_below : (s v : ℕ) → s < n → 0 < occ v (whole_path sites tri he table p s) → v < n
    whole_below s v l o =
        ⊎_elim
        (λ u. used_below v (path_used (length sites) s v u o))
        (λ q. ⊎_elim (λ w. rw w.0 l) (λ w. absurd (omega (arith, w.1, ap (occ v) (whole_alone s l q)))) (same_cases v s))
        (in_use_or_alone s l)

    -- the path from a site on a path is its rest
    pub whole_rest : (s : ℕ) → s < n → (a b : List ℕ) (v : ℕ) → whole_path sites tri he table p s ≡ a ++ (v ∷ b) → whole_path sites tri he table p v ≡ v ∷ b
    whole_rest s l a b v q =
        let here : 0 < occ v (v ∷ b) = occ_there (v ∷ b) 0 (omega arith) in
        let v_below = whole_below s v l (omega (arith, ap (occ v) q, occ_append v a (v ∷ b))) in
        path_one (whole_runs v v_below) (path_rest (whole_runs s l) a b v q)

    -- its last entry is where the path ends
    pub whole_end : (k s : ℕ) → s < n → used_of tri n ≤ suc k → path_end sites tri he table p k s ≡ last_of (whole_path sites tri he table p s)
    whole_end k s l h = sym (end_last k s) ∙ ap last_of (whole_same (suc k) s l (omega arith) h)
