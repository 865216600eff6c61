-- The line from site s to site t: from an exit of a triangle of s ahead of it the exits lead to one of t's triangle before it, if the border has one exit only.
use Rattle.std.specs.Prelude.{◌≡◌, List, ◌≢◌, ℕ, suc, ◌<◌, length}
use Rattle.std.proofs.Common.{sym, ◌∙◌, subst, ⊎_elim, arith}
use Rattle.base.specs.numbers.Numbers.{EMPTY}
use Rattle.mesh.specs.Mesh.{start_of, end_of, pair_of, Paired}
use Rattle.nearest_laws.specs.laws.Area.{◌⊕◌, ◌⊖◌, ◌⊗◌, Null, pluck, pluck', corner, corner₃}
use Rattle.grid.specs.Raised.{area_of, lift_of}
use Rattle.grid.specs.declared.Raised.{Raised}
use Rattle.grid.specs.declared.Signed.{Signed}
use Rattle.nearest_laws.specs.laws.Signs.{Pos, Neg, NonPos}
use Rattle.nearest_laws.specs.laws.Orbit.{Trail, on, good, join, ends}
use Rattle.nearest_laws.specs.laws.Strip.{side, Exit, cross_step, crossed, Cross, lefts, rights, cross, exit_on, exit_inj, crossed_edge, plane, all_beyond, all_past, planes_back, planes_on}
use Rattle.grid.specs.scan.Judged.{apex_of}

null_nonpos : (s : Signed) → Null s → NonPos s
null_nonpos s q = omega arith

module _ (tri he : List ℕ) (ok : Paired tri he) (P : ℕ → Raised) (s t : ℕ)
    (ccw : (e : ℕ) → e < length he → Pos (area_of (P (start_of tri e)) (P (end_of tri e)) (P (apex_of tri e))))
    (convex : (e : ℕ) → e < length he → pair_of he e ≢ EMPTY → NonPos (lift_of (P (start_of tri e)) (P (end_of tri e)) (P (apex_of tri e)) (P (apex_of tri (pair_of he e)))))
  where
    abbrev A : Raised
    A = P s

    abbrev B : Raised
    B = P t

    abbrev X : ℕ → Type 0
    X = Exit tri he ok P A B

    abbrev f : ℕ → ℕ
    f = cross_step tri he ok P A B

    -- x leaves a triangle of s that lies ahead of it, y one of t that lies behind it
    module _ (one : (d e : ℕ) → X d → X e → pair_of he d ≡ EMPTY → pair_of he e ≡ EMPTY → d ≡ e) (x y : ℕ) (gx : X x) (gy : X y) (from : apex_of tri x ≡ s)
        (to : start_of tri y ≡ t)
        (behind : NonPos (side tri he ok P A B (apex_of tri y))) where
      crosses : (u w : ℕ) → X u → X w → f u ≡ w → Cross tri he ok P A B u w
      crosses u w xu xw q = subst (Cross tri he ok P A B u) q (cross tri he ok P A B u xu.0 (crossed tri he ok P A B u (subst (λ k. k < length he) (sym q) xw.0)))

      ahead : Pos (crossed_edge tri he ok P A B A x)
      ahead = turn (P (start_of tri x)) (P (end_of tri x)) A (subst (λ v. Pos (area_of (P (start_of tri x)) (P (end_of tri x)) (P v))) from (ccw x gx.0))
        where
          turn : (a b c : Raised) → Pos (area_of a b c) → Pos (area_of c a b)
          turn a b c h = omega arith

      at_t : Null (crossed_edge tri he ok P A B B y)
      at_t = subst (λ v. Null (area_of B (P v) (P (end_of tri y)))) (sym to) (flat B (P (end_of tri y)))
        where
          flat : (a b : Raised) → Null (area_of a a b)
          flat a b = omega arith

      -- what comes before x starts at s and ends where x does
      before_x : (u : ℕ) → X u → f u ≡ x → (start_of tri u ≡ s) × (end_of tri x ≡ end_of tri u)
      before_x u xu q = go (crosses u x xu gx q)
        where
          off_line : (a b : Raised) → Pos (area_of a b a) → ⊥
          off_line a b h = omega arith

          go : Cross tri he ok P A B u x → (start_of tri u ≡ s) × (end_of tri x ≡ end_of tri u)
          go (lefts h a b c) = absurd (off_line A B (subst (λ v. Pos (area_of A B (P v))) (sym c ∙ from) xu.2))
          go (rights h a b c) = (sym c ∙ from, b)

      -- what comes before y is the side opposite t
      before_y : (u : ℕ) → X u → f u ≡ y → Neg (crossed_edge tri he ok P A B B u)
      before_y u xu q = go (crosses u y xu gy q)
        where
          turn : (a b c : Raised) → Pos (area_of a b c) → Neg (area_of a c b)
          turn a b c h = omega arith

          clash : (r : Signed) → Pos r → NonPos r → ⊥
          clash r h k = omega arith

          go : Cross tri he ok P A B u y → Neg (crossed_edge tri he ok P A B B u)
          go (lefts h a b c) = absurd (clash _ xu.2 (subst (λ v. NonPos (area_of A B (P v))) c behind))
          go (rights h a b c) =
              subst (λ v. Neg (area_of B (P v) (P (end_of tri u)))) c (subst (λ v. Neg (area_of B (P (apex_of tri y)) (P v))) b
              (turn B (P (end_of tri y)) (P (apex_of tri y)) (subst (λ v. Pos (area_of (P v) (P (end_of tri y)) (P (apex_of tri y)))) to (ccw y gy.0))))

      three_A : (a b c : Raised) → Null (area_of A B a ⊗ area_of A b c ⊖ area_of A B b ⊗ area_of A a c ⊕ area_of A B c ⊗ area_of A a b)
      three_A = pluck A B

      three_B : (a b c : Raised) → Null (area_of A B a ⊗ area_of B b c ⊖ area_of A B b ⊗ area_of B a c ⊕ area_of A B c ⊗ area_of B a b)
      three_B = pluck' B A

      clash : (r : Signed) → Pos r → NonPos r → ⊥
      clash r h k = omega arith

      clash' : (r : Signed) → Neg r → Null r → ⊥
      clash' r h k = omega arith

      flat : (a b : Raised) → NonPos (area_of a a b)
      flat a b = omega arith

      never_x : (k : ℕ) → Trail X f x (suc k) x → ⊥
      never_x k (on {y = u} w l h q) =
          let xu = good X f gx l in
          let b = before_x u xu q in
          clash _ ahead (all_beyond tri he ok P A B ccw A three_A gx l (subst (λ v. NonPos (area_of A (P v) (P (end_of tri u)))) (sym b.0) (flat A (P (end_of tri u)))))

      never_y : (k : ℕ) → Trail X f y (suc k) y → ⊥
      never_y k (on {y = u} w l h q) =
          clash' _ (all_past tri he ok P A B ccw B three_B gy l (before_y u (good X f gy l) q)) at_t

      -- from t's exit none leads to s's
      never_yx : (k : ℕ) → Trail X f y (suc k) x → ⊥
      never_yx k (on {y = u} w l h q) =
          let xu = good X f gy l in
          let b = before_x u xu q in
          clash' _ (all_past tri he ok P A B ccw B three_B gy l (subst (λ v. Neg (area_of B (P v) (P (end_of tri u)))) (sym b.0) (turn A B (P (end_of tri u)) xu.2))) at_t
        where
          turn : (a b c : Raised) → Pos (area_of a b c) → Neg (area_of b a c)
          turn a b c h = omega arith

      pub arrives : (k : ℕ) × Trail X f x k y
      arrives =
          let ex = ends X f (exit_inj tri he ok P A B) (length he) (λ e g. g.0) x gx never_x (λ e. pair_of he e ≡ EMPTY) (exit_on tri he ok P A B) in
          let ey = ends X f (exit_inj tri he ok P A B) (length he) (λ e g. g.0) y gy never_y (λ e. pair_of he e ≡ EMPTY) (exit_on tri he ok P A B) in
          let z = one ex.1 ey.1 (good X f gx ex.2) (good X f gy ey.2) ex.3 ey.3 in
          ⊎_elim
          (λ r. r)
          (λ r. absurd (never_yx r.0 r.1))
          (join X f (exit_inj tri he ok P A B) gx gy (subst (Trail X f x _) z ex.2) ey.2)

      -- t is not below the plane of s's triangle, nor s below that of t's
      pub above_from : NonPos (plane tri he ok P A B B x)
      above_from =
          planes_back tri he ok P A B ccw B three_B convex gx arrives.1 (null_nonpos _ at_t)
          (subst (λ v. NonPos (lift_of (P v) (P (end_of tri y)) (P (apex_of tri y)) B)) (sym to)
          (null_nonpos (lift_of B (P (end_of tri y)) (P (apex_of tri y)) B) (corner B (P (end_of tri y)) (P (apex_of tri y)))))

      pub above_to : NonPos (plane tri he ok P A B A y)
      above_to =
          (planes_on tri he ok P A B ccw A three_A convex gx arrives.1 ahead (subst (λ v. NonPos (lift_of (P (start_of tri x)) (P (end_of tri x)) (P v) A)) (sym from)
          (null_nonpos (lift_of (P (start_of tri x)) (P (end_of tri x)) A A) (corner₃ (P (start_of tri x)) (P (end_of tri x)) A)))).1
