-- Theorem: the hull is convex by as many tests as it has edges: from some place on its edges run upward, turning left or going straight, and then
-- downward, turning left or going straight.
use Rattle.std.specs.Prelude.{◌≡◌, refl, List, Bool, true, false, ◌⊎◌, ℕ, suc, ◌+◌, ◌-◌, ◌≤◌, ◌<◌, ltb, length, get_or}
use Rattle.std.proofs.Common.{sym, ap, ◌∙◌, subst, inl, inr, ⊎_elim, arith, ltb-true, ltb-false}
use Rattle.base.specs.common.Pick.{pick}
use Rattle.base.specs.common.laws.Decide.{lt_or_ge, eq_or_ne}
use Rattle.mesh.specs.Hull.{next_place, next_site}
use Rattle.mesh.specs.laws.Border.{after_cases}
use Rattle.nearest_laws.specs.laws.Area.{more}
use Rattle.grid.specs.Raised.{area_of}
use Rattle.grid.specs.declared.Raised.{Raised}
use Rattle.nearest_laws.specs.laws.Signs.{Pos, Neg, NonNeg, NonPos}
use Rattle.nearest_laws.specs.laws.Least.{Convex}
use Rattle.nearest_laws.specs.laws.Runs.{one_leaves, way_left}

-- the place l places after r, cyclically, for l up to h
unfoldable pub place : ℕ → ℕ → ℕ → ℕ
place h r l = pick (ltb (r + l) h) (λ _. r + l) (λ _. r + l - h)

pub place_cases : (h r l : ℕ) → ((r + l < h) × (place h r l ≡ r + l)) ⊎ ((h ≤ r + l) × (place h r l ≡ r + l - h))
unfolding place
place_cases h r l = go (ltb (r + l) h) refl
  where
    go : (t : Bool) → ltb (r + l) h ≡ t → ((r + l < h) × (pick t (λ _. r + l) (λ _. r + l - h) ≡ r + l)) ⊎ ((h ≤ r + l) × (pick t (λ _. r + l) (λ _. r + l - h) ≡ r + l - h))
    go true q = inl (ltb-true _ _ q, refl)
    go false q = inr (ltb-false _ _ q, refl)

module _ (hull : List ℕ) (P : ℕ → Raised) (r m : ℕ) (lr : r < length hull) (O Q : Raised) where
  abbrev H : ℕ
  H = length hull

  -- the point l places after place r
  abbrev pub onward : ℕ → Raised
  onward l = P (get_or hull (place (length hull) r l) 0)

  -- O to Q is the direction that is neither up nor down: no edge is parallel to it. The first m edges from place r go up, the others down; inside each run no corner turns right
  pub record Runs : Type 0 where
    pub ups : (l : ℕ) → l < m → Pos (more O Q (onward l) (onward (suc l)))
    pub downs : (l : ℕ) → m ≤ l → l < length hull → Neg (more O Q (onward l) (onward (suc l)))
    pub turn_up : (l : ℕ) → suc l < m → NonNeg (more (onward l) (onward (suc l)) (onward (suc l)) (onward (suc (suc l))))
    pub turn_down : (l : ℕ) → m ≤ l → suc l < length hull → NonNeg (more (onward l) (onward (suc l)) (onward (suc l)) (onward (suc (suc l))))

  at : (i j : ℕ) → i ≡ j → P (get_or hull i 0) ≡ P (get_or hull j 0)
  at i j q = ap (λ k. P (get_or hull k 0)) q

  -- how far after r place i comes
  steps : (i : ℕ) → i < H → (l : ℕ) × (l < H) × (place H r l ≡ i) × (place H r (suc l) ≡ next_place H i)
  steps i li = ⊎_elim (λ h. go (i + H - r) (omega arith) (inr (omega arith))) (λ h. go (i - r) (omega arith) (inl (omega arith))) (lt_or_ge i r)
    where
      go : (l : ℕ) → l < H → (r + l ≡ i) ⊎ (r + l ≡ i + H) → (l : ℕ) × (l < H) × (place H r l ≡ i) × (place H r (suc l) ≡ next_place H i)
      go l ll w =
          let c = place_cases H r l in
          let d = place_cases H r (suc l) in
          let a = after_cases H i in (
            l,
            ll,
            ⊎_elim (λ u. ⊎_elim (λ v. omega arith) (λ v. omega arith) w) (λ u. ⊎_elim (λ v. omega arith) (λ v. omega arith) w) c,
            ⊎_elim
                (λ u. ⊎_elim (λ b. ⊎_elim (λ v. omega arith) (λ v. omega arith) w) (λ b. ⊎_elim (λ v. omega arith) (λ v. omega arith) w) a)
                (λ u. ⊎_elim (λ b. ⊎_elim (λ v. omega arith) (λ v. omega arith) w) (λ b. ⊎_elim (λ v. omega arith) (λ v. omega arith) w) a)
                d,
          )

  closed : onward H ≡ onward 0
  closed = at (place H r H) (place H r 0) (⊎_elim (λ u. ⊎_elim (λ v. omega arith) (λ v. omega arith) (place_cases H r 0))
      (λ u. ⊎_elim (λ v. omega arith) (λ v. omega arith) (place_cases H r 0)) (place_cases H r H))

  module _ (ok : Runs) where
    left : (i j : ℕ) → i < H → j < H → NonNeg (area_of (P (get_or hull i 0)) (P (next_site hull i)) (P (get_or hull j 0)))
    left i j li lj =
        let a = steps i li in
        let b = steps j lj in
        let w = way_left H m onward closed O Q ok.ups ok.downs ok.turn_up ok.turn_down a.0 a.1 b.0 b.1 in
        subst (λ k. NonNeg (area_of (P (get_or hull k 0)) (P (next_site hull i)) (P (get_or hull j 0)))) a.2
        (subst (λ k. NonNeg (area_of (onward a.0) (P (get_or hull k 0)) (P (get_or hull j 0)))) a.3
        (subst (λ k. NonNeg (area_of (onward a.0) (onward (suc a.0)) (P (get_or hull k 0)))) b.2 w))

    ordered : (A B : Raised) (l k : ℕ) → l < k → k < H → NonPos (area_of A B (onward l)) → Pos (area_of A B (onward (suc l))) → NonPos (area_of A B (onward k)) → Pos
        (area_of A B (onward (suc k))) → ⊥
    ordered A B = one_leaves H m onward closed O Q ok.ups ok.downs ok.turn_up ok.turn_down A B

    pub by_runs : Convex hull P
    by_runs = record {
      left = left;
      once = λ A B i j li lj q h₁ h₂ h₃ h₄.
          let a = steps i li in
          let b = steps j lj in
          let k₁ = subst (λ k. NonPos (area_of A B (P (get_or hull k 0)))) (sym a.2) h₁ in
          let k₂ = subst (λ k. Pos (area_of A B (P (get_or hull k 0)))) (sym a.3) h₂ in
          let k₃ = subst (λ k. NonPos (area_of A B (P (get_or hull k 0)))) (sym b.2) h₃ in
          let k₄ = subst (λ k. Pos (area_of A B (P (get_or hull k 0)))) (sym b.3) h₄ in
          ⊎_elim
          (λ l. ordered A B a.0 b.0 l b.1 k₁ k₂ k₃ k₄)
          (λ l. ⊎_elim
          (λ z. q (sym a.2 ∙ ap (place H r) z ∙ b.2))
          (λ z. ordered A B b.0 a.0 (omega arith) a.1 k₃ k₄ k₁ k₂)
          (eq_or_ne a.0 b.0))
          (lt_or_ge a.0 b.0);
    }
