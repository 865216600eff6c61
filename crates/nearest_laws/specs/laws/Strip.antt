-- The triangles that a line cuts, one after the other: each exit is the edge from a site on or right of the line to one left of it.
use Rattle.grid.specs.scan.Judged.{apex_of}
use Rattle.std.specs.Prelude.{◌≡◌, List, Bool, true, false, ◌⊎◌, ◌≢◌, ltb, length}
use Rattle.std.proofs.Math.Path.{refl}
use Rattle.std.proofs.Common.{sym, ap, ◌∙◌, subst, inl, inr, ⊎_elim, arith, ltb-true, ltb-false}
use Prim.Native.Nat.{ℕ, ◌<◌}
use Rattle.base.specs.common.Pick.{pick}
use Rattle.base.specs.common.laws.Decide.{lt_or_ge, eq_or_ne}
use Rattle.base.specs.numbers.Numbers.{EMPTY}
use Rattle.mesh.specs.Mesh.{next_of, start_of, end_of, pair_of, Mates, Paired}
use Rattle.mesh.specs.laws.Next.{next_sum, next_lt, next_inj, next_thrice}
use Rattle.nearest_laws.specs.laws.Area.{◌⊕◌, ◌⊖◌, ◌⊗◌, Null, turned}
use Rattle.grid.specs.Raised.{area_of, lift_of}
use Rattle.grid.specs.declared.Raised.{Raised}
use Rattle.grid.specs.declared.Signed.{Signed}
use Rattle.nearest_laws.specs.laws.Signs.{Pos, Neg, NonNeg, NonPos, beyond_left, past_left, beyond_right, past_right, plane_back, plane_on}
use Rattle.nearest_laws.specs.laws.Orbit.{Trail, stop, on, good}

same_sign : (s t : Signed) → Null (s ⊖ t) → NonPos s → NonPos t
same_sign s t q h = omega arith

flip : (s t : Signed) → Null (s ⊖ t) → Null (t ⊖ s)
flip s t q = omega arith

module _ (tri he : List ℕ) (ok : Paired tri he) (P : ℕ → Raised) (A B : Raised) where
  abbrev pub side : ℕ → Signed
  side v = area_of A B (P v)

  abbrev pub Exit : ℕ → Type 0
  Exit e = (e < length he) × NonPos (side (start_of tri e)) × Pos (side (end_of tri e))

  unfoldable pub cross_step : ℕ → ℕ
  cross_step e =
      let f = pair_of he e in
      pick (ltb (side (apex_of tri f)).minus (side (apex_of tri f)).plus) (λ _. next_of f) (λ _. next_of (next_of f))

  pub step_cases : (e : ℕ) → (Pos (side (apex_of tri (pair_of he e))) × (cross_step e ≡ next_of (pair_of he e))) ⊎
      (NonPos (side (apex_of tri (pair_of he e))) × (cross_step e ≡ next_of (next_of (pair_of he e))))
  unfolding cross_step
  step_cases e = go (ltb (side c).minus (side c).plus) refl
    where
      c : ℕ
      c = apex_of tri (pair_of he e)

      go : (t : Bool) → ltb (side c).minus (side c).plus ≡ t → (Pos (side c) × (pick t (λ _. next_of (pair_of he e)) (λ _. next_of (next_of (pair_of he e))) ≡ next_of (pair_of he e))) ⊎
          (NonPos (side c) × (pick t (λ _. next_of (pair_of he e)) (λ _. next_of (next_of (pair_of he e))) ≡ next_of (next_of (pair_of he e))))
      go true h = inl (ltb-true _ _ h, refl)
      go false h = inr (ltb-false _ _ h, refl)

  mates : (e : ℕ) → e < length he → pair_of he e ≢ EMPTY → Mates tri he e (pair_of he e)
  mates e l n = ⊎_elim (λ w. absurd (n w)) (λ w. w) (ok.pairs e l)

  -- a step that stays in the mesh goes over a paired half-edge
  pub crossed : (e : ℕ) → cross_step e < length he → pair_of he e ≢ EMPTY
  crossed e l q =
      ⊎_elim
      (λ w. omega (arith, ok.small, w.1, ap next_of q, next_sum EMPTY))
      (λ w. omega (arith, ok.small, w.1, ap (λ k. next_of (next_of k)) q, next_sum EMPTY, next_sum (next_of EMPTY)))
      (step_cases e)

  -- over e into the triangle b a c, and out between a and c or between c and b
  pub data Cross (e w : ℕ) : Type 0 where
    lefts : Pos (side (apex_of tri (pair_of he e))) → start_of tri w ≡ start_of tri e → end_of tri w ≡ apex_of tri (pair_of he e) → apex_of tri w ≡ end_of tri e → Cross e w
    rights : NonPos (side (apex_of tri (pair_of he e))) → start_of tri w ≡ apex_of tri (pair_of he e) → end_of tri w ≡ end_of tri e → apex_of tri w ≡ start_of tri e → Cross e w

  pub cross : (e : ℕ) → e < length he → pair_of he e ≢ EMPTY → Cross e (cross_step e)
  cross e l n =
      let g = mates e l n in
      ⊎_elim
      (λ w. lefts w.0 (ap (start_of tri) w.1 ∙ g.to) (ap (end_of tri) w.1) (ap (apex_of tri) w.1 ∙ ap (start_of tri) (next_thrice (pair_of he e)) ∙ g.from))
      (λ w. rights w.0 (ap (start_of tri) w.1) (ap (end_of tri) w.1 ∙ ap (start_of tri) (next_thrice (pair_of he e)) ∙ g.from)
      (ap (apex_of tri) w.1 ∙ ap (λ k. start_of tri (next_of k)) (next_thrice (pair_of he e)) ∙ g.to))
      (step_cases e)

  -- each exit goes on to an exit, or is unpaired
  pub exit_on : (e : ℕ) → Exit e → (pair_of he e ≡ EMPTY) ⊎ Exit (cross_step e)
  exit_on e x =
      ⊎_elim
      inl
      (λ n.
      let g = mates e x.0 n in
      let i : cross_step e < length he = ⊎_elim (λ w. rw w.1 (next_lt ok.threes g.inside)) (λ w. rw w.1 (next_lt ok.threes (next_lt ok.threes g.inside))) (step_cases e) in
      inr (exits i (cross e x.0 n)))
      (eq_or_ne (pair_of he e) EMPTY)
    where
      exits : cross_step e < length he → Cross e (cross_step e) → Exit (cross_step e)
      exits i (lefts s a b c) = (i, subst (λ v. NonPos (side v)) (sym a) x.1, subst (λ v. Pos (side v)) (sym b) s)
      exits i (rights s a b c) = (i, subst (λ v. NonPos (side v)) (sym a) s, subst (λ v. Pos (side v)) (sym b) x.2)

  -- no two exits go on to one
  pub exit_inj : (a b : ℕ) → Exit a → Exit b → Exit (cross_step a) → cross_step a ≡ cross_step b → a ≡ b
  exit_inj a b x y z q =
      let na = crossed a z.0 in
      let nb = crossed b (omega (arith, z.0)) in
      let ga = mates a x.0 na in
      let gb = mates b y.0 nb in
      let right-a : NonPos (side (end_of tri (pair_of he a))) = subst (λ v. NonPos (side v)) (sym ga.to) x.1 in
      let right-b : NonPos (side (end_of tri (pair_of he b))) = subst (λ v. NonPos (side v)) (sym gb.to) y.1 in
      let left-a : Pos (side (start_of tri (pair_of he a))) = subst (λ v. Pos (side v)) (sym ga.from) x.2 in
      let left-b : Pos (side (start_of tri (pair_of he b))) = subst (λ v. Pos (side v)) (sym gb.from) y.2 in
      let same : pair_of he a ≡ pair_of he b → a ≡ b = λ r. sym ga.back ∙ ap (pair_of he) r ∙ gb.back in
      ⊎_elim
      (λ u. ⊎_elim
      (λ w. same (next_inj (sym u.1 ∙ q ∙ w.1)))
      (λ w. absurd (clash _ _ left-a right-b (next_inj (sym u.1 ∙ q ∙ w.1))))
      (step_cases b))
      (λ u. ⊎_elim
      (λ w. absurd (clash _ _ left-b right-a (next_inj (sym w.1 ∙ sym q ∙ u.1))))
      (λ w. same (next_inj (next_inj (sym u.1 ∙ q ∙ w.1))))
      (step_cases b))
      (step_cases a)
    where
      clash : (i j : ℕ) → Pos (side (start_of tri i)) → NonPos (side (start_of tri j)) → i ≡ j → ⊥
      clash i j l r p = let k = subst (λ v. Pos (side (start_of tri v))) p l in omega arith

  abbrev pub crossed_edge : Raised → ℕ → Signed
  crossed_edge p e = area_of p (P (start_of tri e)) (P (end_of tri e))

  abbrev pub plane : Raised → ℕ → Signed
  plane p e = lift_of (P (start_of tri e)) (P (end_of tri e)) (P (apex_of tri e)) p

  module _ (ccw : (e : ℕ) → e < length he → Pos (area_of (P (start_of tri e)) (P (end_of tri e)) (P (apex_of tri e)))) where
    -- the triangle over e, in the names of e
    over : (e : ℕ) → e < length he → pair_of he e ≢ EMPTY → Pos (area_of (P (end_of tri e)) (P (start_of tri e)) (P (apex_of tri (pair_of he e))))
    over e l n =
        let g = mates e l n in
        subst (λ v. Pos (area_of (P (end_of tri e)) (P v) (P (apex_of tri (pair_of he e))))) g.to
        (subst (λ v. Pos (area_of (P v) (P (end_of tri (pair_of he e))) (P (apex_of tri (pair_of he e))))) g.from (ccw (pair_of he e) g.inside))

    -- p lies on the line
    module _ (p : Raised) (three : (a b c : Raised) → Null (area_of A B a ⊗ area_of p b c ⊖ area_of A B b ⊗ area_of p a c ⊕ area_of A B c ⊗ area_of p a b)) where
      swap : (a b : Raised) → Null (area_of p a b ⊕ area_of p b a)
      swap a b = omega arith

      module _ (e w : ℕ) (x : Exit e) (n : pair_of he e ≢ EMPTY) where
        abbrev a : Raised
        a = P (start_of tri e)

        abbrev b : Raised
        b = P (end_of tri e)

        abbrev c : Raised
        c = P (apex_of tri (pair_of he e))

        beyond : Cross e w → NonPos (crossed_edge p w) → NonPos (crossed_edge p e)
        beyond (lefts s q r _) h =
            beyond_left (area_of A B a) (area_of A B b) (area_of A B c) a b c p (three a b c) (over e x.0 n) x.1 x.2 s
            (subst (λ v. NonPos (area_of p a (P v))) r (subst (λ v. NonPos (area_of p (P v) (P (end_of tri w)))) q h))
        beyond (rights s q r _) h =
            beyond_right (area_of A B a) (area_of A B b) (area_of A B c) a b c p (three a b c) (over e x.0 n) x.1 x.2 s
            (turn_back (subst (λ v. NonPos (area_of p c (P v))) r (subst (λ v. NonPos (area_of p (P v) (P (end_of tri w)))) q h)))
          where
            turn_back : NonPos (area_of p c b) → NonNeg (area_of p b c)
            turn_back k = omega (arith, swap b c)

        past : Cross e w → Neg (crossed_edge p w) → Neg (crossed_edge p e)
        past (lefts s q r _) h =
            past_left (area_of A B a) (area_of A B b) (area_of A B c) a b c p (three a b c) (over e x.0 n) x.1 x.2 s
            (subst (λ v. Neg (area_of p a (P v))) r (subst (λ v. Neg (area_of p (P v) (P (end_of tri w)))) q h))
        past (rights s q r _) h =
            past_right (area_of A B a) (area_of A B b) (area_of A B c) a b c p (three a b c) (over e x.0 n) x.1 x.2 s
            (turn_back (subst (λ v. Neg (area_of p c (P v))) r (subst (λ v. Neg (area_of p (P v) (P (end_of tri w)))) q h)))
          where
            turn_back : Neg (area_of p c b) → Pos (area_of p b c)
            turn_back k = omega (arith, swap b c)

      one_beyond : (e w : ℕ) → Exit e → Exit w → cross_step e ≡ w → NonPos (crossed_edge p w) → NonPos (crossed_edge p e)
      one_beyond e w x y q h = let n = crossed e (subst (λ k. k < length he) (sym q) y.0) in beyond e w x n (subst (Cross e) q (cross e x.0 n)) h

      one_past : (e w : ℕ) → Exit e → Exit w → cross_step e ≡ w → Neg (crossed_edge p w) → Neg (crossed_edge p e)
      one_past e w x y q h = let n = crossed e (subst (λ k. k < length he) (sym q) y.0) in past e w x n (subst (Cross e) q (cross e x.0 n)) h

      -- what is beyond an exit is beyond all earlier ones
      pub all_beyond : {x k y : ℕ} → Exit x → Trail Exit cross_step x k y → NonPos (crossed_edge p y) → NonPos (crossed_edge p x)
      all_beyond g stop h = h
      all_beyond g (on {y = u} w t i q) h = all_beyond g t (one_beyond u w (good Exit cross_step g t) i q h)

      pub all_past : {x k y : ℕ} → Exit x → Trail Exit cross_step x k y → Neg (crossed_edge p y) → Neg (crossed_edge p x)
      all_past g stop h = h
      all_past g (on {y = u} w t i q) h = all_past g t (one_past u w (good Exit cross_step g t) i q h)

      module _ (convex : (e : ℕ) → e < length he → pair_of he e ≢ EMPTY → NonPos (lift_of (P (start_of tri e)) (P (end_of tri e)) (P (apex_of tri e)) (P (apex_of tri (pair_of he e))))) where
        module _ (e w : ℕ) (l : e < length he) (n : pair_of he e ≢ EMPTY) where
          abbrev a₂ : Raised
          a₂ = P (start_of tri e)

          abbrev b₂ : Raised
          b₂ = P (end_of tri e)

          abbrev c₂ : Raised
          c₂ = P (apex_of tri (pair_of he e))

          abbrev d₂ : Raised
          d₂ = P (apex_of tri e)

          -- the plane of the triangle over e, in the names of e and in those of the next exit
          named : Cross e w → NonPos (plane p w) → NonPos (lift_of b₂ a₂ c₂ p)
          named (lefts s q r t) h =
              same_sign (lift_of a₂ c₂ b₂ p) (lift_of b₂ a₂ c₂ p) (flip (lift_of b₂ a₂ c₂ p) (lift_of a₂ c₂ b₂ p) (turned a₂ b₂ c₂ p))
              (subst (λ v. NonPos (lift_of a₂ c₂ (P v) p)) t (subst (λ v. NonPos (lift_of a₂ (P v) (P (apex_of tri w)) p)) r
              (subst (λ v. NonPos (lift_of (P v) (P (end_of tri w)) (P (apex_of tri w)) p)) q h)))
          named (rights s q r t) h =
              same_sign (lift_of c₂ b₂ a₂ p) (lift_of b₂ a₂ c₂ p) (turned b₂ c₂ a₂ p)
              (subst (λ v. NonPos (lift_of c₂ b₂ (P v) p)) t (subst (λ v. NonPos (lift_of c₂ (P v) (P (apex_of tri w)) p)) r
              (subst (λ v. NonPos (lift_of (P v) (P (end_of tri w)) (P (apex_of tri w)) p)) q h)))

          renamed : Cross e w → NonPos (lift_of b₂ a₂ c₂ p) → NonPos (plane p w)
          renamed (lefts s q r t) h =
              subst (λ v. NonPos (lift_of (P v) (P (end_of tri w)) (P (apex_of tri w)) p)) (sym q)
              (subst (λ v. NonPos (lift_of a₂ (P v) (P (apex_of tri w)) p)) (sym r)
              (subst (λ v. NonPos (lift_of a₂ c₂ (P v) p)) (sym t) (same_sign (lift_of b₂ a₂ c₂ p) (lift_of a₂ c₂ b₂ p) (turned a₂ b₂ c₂ p) h)))
          renamed (rights s q r t) h =
              subst (λ v. NonPos (lift_of (P v) (P (end_of tri w)) (P (apex_of tri w)) p)) (sym q)
              (subst (λ v. NonPos (lift_of c₂ (P v) (P (apex_of tri w)) p)) (sym r)
              (subst (λ v. NonPos (lift_of c₂ b₂ (P v) p)) (sym t) (same_sign (lift_of b₂ a₂ c₂ p) (lift_of c₂ b₂ a₂ p)
              (flip (lift_of c₂ b₂ a₂ p) (lift_of b₂ a₂ c₂ p) (turned b₂ c₂ a₂ p)) h)))

          over_back : Cross e w → NonPos (crossed_edge p e) → NonPos (plane p w) → NonPos (plane p e)
          over_back k h g = plane_back a₂ b₂ d₂ c₂ p (ccw e l) (over e l n) (convex e l n) h (named k g)

          over_on : Cross e w → NonNeg (crossed_edge p e) → NonPos (plane p e) → NonPos (plane p w)
          over_on k h g = renamed k (plane_on a₂ b₂ d₂ c₂ p (ccw e l) (over e l n) (convex e l n) h g)

        one_back : (e w : ℕ) → Exit e → Exit w → cross_step e ≡ w → NonPos (crossed_edge p e) → NonPos (plane p w) → NonPos (plane p e)
        one_back e w x y q h g = let n = crossed e (subst (λ k. k < length he) (sym q) y.0) in over_back e w x.0 n (subst (Cross e) q (cross e x.0 n)) h g

        one_on : (e w : ℕ) → Exit e → Exit w → cross_step e ≡ w → Pos (crossed_edge p e) → NonPos (plane p e) → NonPos (plane p w)
        one_on e w x y q h g = let n = crossed e (subst (λ k. k < length he) (sym q) y.0) in over_on e w x.0 n (subst (Cross e) q (cross e x.0 n)) (omega arith) g

        -- p, beyond the last exit and not below its triangle's plane, is not below the plane of the first
        pub planes_back : {x k y : ℕ} → Exit x → Trail Exit cross_step x k y → NonPos (crossed_edge p y) → NonPos (plane p y) → NonPos (plane p x)
        planes_back g stop h k = k
        planes_back g (on {y = u} w t i q) h k =
            let v = good Exit cross_step g t in
            let h' = one_beyond u w v i q h in
            planes_back g t h' (one_back u w v i q h' k)

        -- p, before the first exit and not below its triangle's plane, is before the last, and not below that one's
        pub planes_on : {x k y : ℕ} → Exit x → Trail Exit cross_step x k y → Pos (crossed_edge p x) → NonPos (plane p x) → Pos (crossed_edge p y) × NonPos (plane p y)
        planes_on g stop h k = (h, k)
        planes_on g (on {y = u} w t i q) h k =
            let v = good Exit cross_step g t in
            let r = planes_on g t h k in
            (⊎_elim (λ z. z) (λ z. absurd (omega (arith, one_beyond u w v i q z, r.0))) (lt_or_ge (crossed_edge p w).minus (crossed_edge p w).plus), one_on u w v i q r.0 r.1)
