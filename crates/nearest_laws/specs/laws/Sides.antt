-- Every site in use lies left of or on each border edge, if the border's sites do.
use Rattle.std.specs.Prelude.{◌≡◌, List, ◌⊎◌, ◌≢◌, ℕ, zero, suc, ◌+◌, ◌≤◌, ◌<◌, length}
use Rattle.std.proofs.Common.{sym, ap, ◌∙◌, subst, inl, inr, ⊎_elim, arith}
use Rattle.base.specs.common.laws.Decide.{lt_or_ge, eq_or_ne}
use Rattle.base.specs.numbers.Numbers.{EMPTY}
use Rattle.mesh.specs.Mesh.{next_of, start_of, end_of, pair_of, around, Paired}
use Rattle.mesh.specs.laws.Next.{next_lt, next_thrice}
use Rattle.nearest_laws.specs.laws.Area.{◌⊕◌, ◌⊖◌, ◌⊗◌, Null, more, dif, span_x, span_y}
use Rattle.grid.specs.Raised.{area_of}
use Rattle.grid.specs.declared.Raised.{Raised}
use Rattle.grid.specs.declared.Signed.{Signed}
use Rattle.nearest_laws.specs.laws.Signs.{Pos, Neg, NonNeg, NonPos, pp}
use Rattle.grid.specs.scan.Judged.{apex_of}
use Rattle.nearest_laws.specs.laws.Turns.{comes, mate}

abbrev pub Apart : Raised → Raised → Type 0
Apart a b = a.x ≡ b.x → a.y ≡ b.y → ⊥

-- a factor of nothing beside one of something
only : (u w : ℕ) (s t r p q : Signed) → Null (dif u w ⊗ s ⊖ p ⊗ t ⊕ q ⊗ r) → Pos s → Null t → Null r → w ≡ u
only u w s t r p q sum h kt kr =
    let zt : Null (p ⊗ t) = rw kt (omega arith) in
    let zr : Null (q ⊗ r) = rw kr (omega arith) in
    ⊎_elim
    (λ l. absurd (omega (arith, sum, zt, zr, pp (dif u w) s l h)))
    (λ l. ⊎_elim
    (λ k. absurd (omega (arith, sum, zt, zr, pp (dif w u) s k h)))
    (λ k. omega arith)
    (lt_or_ge u w))
    (lt_or_ge w u)

-- two directions that span something are not signedSum along the line
pub not_both : (a b v x y : Raised) → Apart a b → Pos (area_of v x y) → Null (more a b v x) → Null (more a b v y) → ⊥
not_both a b v x y d h hx hy =
    d (only b.x a.x (area_of v x y) (more a b v y) (more a b v x) (dif x.x v.x) (dif y.x v.x) (span_x a b v x y) h hy hx)
    (only b.y a.y (area_of v x y) (more a b v y) (more a b v x) (dif x.y v.y) (dif y.y v.y) (span_y a b v x y) h hy hx)

pub three_ways : (s : Signed) → Neg s ⊎ (Null s ⊎ Pos s)
three_ways s = ⊎_elim inl (λ h. ⊎_elim (λ k. inr (inr k)) (λ k. inr (inl (omega arith))) (lt_or_ge s.minus s.plus)) (lt_or_ge s.plus s.minus)

pub pos_or : (s : Signed) → Pos s ⊎ NonPos s
pos_or s = lt_or_ge s.minus s.plus

pub nonneg_or : (s : Signed) → NonNeg s ⊎ Neg s
nonneg_or s = ⊎_elim inr inl (lt_or_ge s.plus s.minus)

module _ (tri he : List ℕ) (ok : Paired tri he) (P : ℕ → Raised)
    (ccw : (e : ℕ) → e < length he → Pos (area_of (P (start_of tri e)) (P (end_of tri e)) (P (apex_of tri e))))
  where
    -- the triangle of e as seen from its end
    pub at_end : (e : ℕ) → e < length he → Pos (area_of (P (end_of tri e)) (P (apex_of tri e)) (P (start_of tri e)))
    at_end e l = turn (P (start_of tri e)) (P (end_of tri e)) (P (apex_of tri e)) (ccw e l)
      where
        turn : (x y z : Raised) → Pos (area_of x y z) → Pos (area_of y z x)
        turn x y z h = omega arith

    pub at_apart : (e : ℕ) → e < length he → Apart (P (start_of tri e)) (P (end_of tri e))
    at_apart e l p q = flat (P (start_of tri e)) (P (end_of tri e)) (P (apex_of tri e)) p q (ccw e l)
      where
        flat : (x y z : Raised) → x.x ≡ y.x → x.y ≡ y.y → Pos (area_of x y z) → ⊥
        flat x y z p q h = omega (arith, rw (p, q) at h)

    -- a site that no unpaired half-edge starts at has a neighbour strictly right of where it stands
    module _ (v : ℕ) (inner : (d : ℕ) → d < length he → pair_of he d ≡ EMPTY → start_of tri d ≢ v) (a b : Raised) (apart : Apart a b) where
      abbrev Lower : Type 0
      Lower = (n : ℕ) × (n < length he) × (end_of tri n ≡ v) × Neg (more a b (P v) (P (start_of tri n)))

      -- the neighbour after e
      after : (e : ℕ) → e < length he → end_of tri e ≡ v → (n : ℕ) × (n < length he) × (end_of tri n ≡ v) × (start_of tri n ≡ apex_of tri e)
      after e l q =
          let m = mate tri he ok P ccw v a b NonNeg Neg nonneg_or (λ s z. z) e l (λ z. inner (next_of e) (next_lt ok.threes l) z q) in
          (around he e, m.inside, m.to ∙ q, m.from)

      lower_after : (e : ℕ) → e < length he → end_of tri e ≡ v → Neg (more a b (P v) (P (apex_of tri e))) → Lower
      lower_after e l q k =
          let m = after e l q in
          (m.0, m.1, m.2, subst (λ u. Neg (more a b (P v) (P u))) (sym m.3) k)

      from_strict : (e : ℕ) → e < length he → end_of tri e ≡ v → Pos (more a b (P v) (P (start_of tri e))) → Lower
      from_strict e l q h =
          let r = comes tri he ok P ccw v a b NonNeg Neg nonneg_or (λ s k. k) e (l, q, omega arith) h in
          ⊎_elim
          (λ k. lower_after r.0 r.1.0 r.1.1 k)
          (λ k. absurd (inner (next_of r.0) (next_lt ok.threes r.1.0) k r.1.1))
          r.2

      pub lower : (e : ℕ) → e < length he → end_of tri e ≡ v → Lower
      lower e l q =
          ⊎_elim
          (λ h. (e, l, q, h))
          (λ g. ⊎_elim
          (λ h. ⊎_elim
          (λ k. lower_after e l q k)
          (λ i. ⊎_elim
          (λ k. absurd (not_both a b (P v) (P (apex_of tri e)) (P (start_of tri e)) apart (subst (λ u. Pos (area_of (P u) (P (apex_of tri e)) (P (start_of tri e)))) q (at_end e l)) k h))
          (λ k. let m = after e l q in from_strict m.0 m.1 m.2 (subst (λ u. Pos (more a b (P v) (P u))) (sym m.3) k))
          i)
          (three_ways (more a b (P v) (P (apex_of tri e)))))
          (λ h. from_strict e l q h)
          g)
          (three_ways (more a b (P v) (P (start_of tri e))))

    -- an unpaired half-edge from v below n, or none
    pub open_or : (v n : ℕ) → ((d : ℕ) × (d < n) × (pair_of he d ≡ EMPTY) × (start_of tri d ≡ v)) ⊎ ((d : ℕ) → d < n → pair_of he d ≡ EMPTY → start_of tri d ≢ v)
    open_or v zero = inr (λ d l. absurd (omega arith))
    open_or v (suc n) =
        ⊎_elim
        (λ r. inl (r.0, omega (arith, r.1), r.2, r.3))
        (λ r. ⊎_elim
        (λ p. ⊎_elim
        (λ q. inl (n, omega arith, p, q))
        (λ q. inr (λ d l z. ⊎_elim (λ k. subst (λ i. start_of tri i ≢ v) (sym k) q) (λ k. r d (omega arith) z) (eq_or_ne d n)))
        (eq_or_ne (start_of tri n) v))
        (λ p. inr (λ d l z. ⊎_elim (λ k. absurd (p (ap (pair_of he) (sym k) ∙ z))) (λ k. r d (omega arith) z) (eq_or_ne d n)))
        (eq_or_ne (pair_of he n) EMPTY))
        (open_or v n)

    module _ (K : ℕ) (e : ℕ) (l : e < length he)
        (bound : (n : ℕ) → n < length he → (area_of (P (start_of tri e)) (P (end_of tri e)) (P (start_of tri n))).minus ≤ K)
        (border : (d : ℕ) → d < length he → pair_of he d ≡ EMPTY → NonNeg (area_of (P (start_of tri e)) (P (end_of tri e)) (P (start_of tri d))))
      where
        abbrev g : ℕ → Signed
        g n = area_of (P (start_of tri e)) (P (end_of tri e)) (P (start_of tri n))

        falls : (s t : Signed) (k : ℕ) → s.plus + K ≤ suc k + s.minus → Neg (t ⊖ s) → t.plus + K ≤ k + t.minus
        falls s t k h i = omega arith

        stays : (s t : Signed) → Neg (t ⊖ s) → NonNeg t → NonNeg s
        stays s t h i = omega arith

        none : (s t : Signed) → s.plus + K ≤ 0 + s.minus → Neg (t ⊖ s) → t.minus ≤ K → ⊥
        none s t h i j = omega arith

        -- on the border, or with a neighbour farther right
        down : (n : ℕ) → n < length he → NonNeg (g n) ⊎ ((i : ℕ) × (i < length he) × Neg (g i ⊖ g n))
        down n ln =
            ⊎_elim
            (λ r. inl (subst (λ v. NonNeg (area_of (P (start_of tri e)) (P (end_of tri e)) (P v))) r.3 (border r.0 r.1 r.2)))
            (λ r.
            let w = lower (start_of tri n) r (P (start_of tri e)) (P (end_of tri e)) (at_apart e l) (next_of (next_of n)) (next_lt ok.threes (next_lt ok.threes ln))
            (ap (start_of tri) (next_thrice n)) in
            inr (w.0, w.1, w.3))
            (open_or (start_of tri n) (length he))

        left_by : (k n : ℕ) → n < length he → (g n).plus + K ≤ k + (g n).minus → NonNeg (g n)
        left_by zero n ln h = ⊎_elim (λ r. r) (λ r. absurd (none (g n) (g r.0) h r.2 (bound r.0 r.1))) (down n ln)
        left_by (suc k) n ln h =
            ⊎_elim (λ r. r) (λ r. stays (g n) (g r.0) r.2 (left_by k r.0 r.1 (falls (g n) (g r.0) k h r.2))) (down n ln)

        pub left_all : (n : ℕ) → n < length he → NonNeg (g n)
        left_all n ln = left_by ((g n).plus + K) n ln (most ((g n).plus + K) (g n).minus)
          where
            most : (x y : ℕ) → x ≤ x + y
            most x y = omega arith
