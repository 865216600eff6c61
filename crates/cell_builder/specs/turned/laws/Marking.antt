-- The marks, triangle by triangle: a mark stays, and where a circumcenter is outside three are set.
use Rattle.std.specs.Prelude.{◌≡◌, refl, Bool, true, false, not, List, ◌∷◌, ◌⊎◌, ◌≢◌, ℕ, ◌+◌, ◌*◌, ◌/◌, ◌≤◌, ◌<◌, eqb, length, get_or, set, replicate}
use Rattle.std.proofs.Common.{sym, ap, ◌∙◌, inl, inr, ⊎_elim, arith, length-set, get_or-set_same, get_or-set_other, eqb-true}
use Rattle.std.proofs.lemmas.List.{length-replicate}
use Rattle.std.proofs.lemmas.Bool.{eqb-false}
use Rattle.base.specs.common.Decide.{Says}
use Rattle.base.specs.common.laws.Decide.{lt_or_ge, eq_or_ne}
use Rattle.base.specs.numbers.Numbers.{EMPTY}
use Rattle.plane.specs.declared.points.Point.{Point}
use Rattle.plane.specs.declared.boxes.BoundingBox.{BoundingBox}
use Rattle.base.specs.common.Count.{occ, same}
use Rattle.base.specs.common.laws.Count.{same_cases}
use Rattle.mesh.specs.Mesh.{pair_of, turn_of, whole_of, Paired}
use Rattle.walks.specs.neighbours.Cursor.{rest_of, Settled}
use Rattle.walks.specs.neighbours.laws.Rest.{settled_start, rest_step_lem, rest_settled, rest_done}
use Rattle.definition.specs.Cell.{in_box}
use Rattle.build_laws.specs.laws.Runs.{true_false}
use Rattle.cell_builder.specs.turned.Marks.{mark_of, Covers, MadeLast, MarksStay, WalkMarked}
use Rattle.cell_builder.specs.turned.Turns.{HullTold}

mark_there : (m : List ℕ) (x : ℕ) → x / 24 < length m → mark_of (set m (x / 24) 1) x ≢ 0
mark_there m x l z = omega (arith, get_or-set_same m (x / 24) 1 0 l)

mark_kept : (m : List ℕ) (j x : ℕ) → j < length m → mark_of m x ≢ 0 → mark_of (set m j 1) x ≢ 0
mark_kept m j x l n z =
    ⊎_elim
    (λ q. omega (arith, rw q at z, get_or-set_same m j 1 0 l))
    (λ q. n (sym (get_or-set_other m j (x / 24) 1 0 q) ∙ z))
    (eq_or_ne (x / 24) j)

module _ (b : BoundingBox) (vs : List Point) (tri table m : List ℕ) (t : ℕ) where
  pub covers_in : in_box b (length tri / 3) vs t ≡ true → Covers b vs tri table m (3 * t) → Covers b vs tri table m (3 * (t + 1))
  covers_in i c k l z =
      ⊎_elim
      (λ h. c k h z)
      (λ h. let e : k / 3 ≡ t = omega arith in absurd (true_false i (rw e at z)))
      (lt_or_ge k (3 * t))

  covers_out : (a d e : ℕ) → a ≡ get_or tri (3 * t) 0 → d ≡ get_or tri (3 * t + 1) 0 → e ≡ get_or tri (3 * t + 2) 0 → length m ≡ 16384
      → get_or table a 0 < 393216 → get_or table d 0 < 393216 → get_or table e 0 < 393216 → Covers b vs tri table m (3 * t)
      → Covers b vs tri table (set (set (set m (get_or table a 0 / 24) 1) (get_or table d 0 / 24) 1) (get_or table e 0 / 24) 1) (3 * (t + 1))
  covers_out a d e qa qd qe long la ld le c k l z =
      ⊎_elim
      (λ h. third _ (second _ (mark_kept m (get_or table a 0 / 24) _ (omega (arith, long)) (c k h z))))
      (λ h. ⊎_elim
      (λ p.
      let x : get_or tri k 0 ≡ a = ap (λ (j : ℕ). get_or tri j 0) p ∙ sym qa in
      rw x (third _ (second _ (mark_there m (get_or table a 0) (omega (arith, long))))))
      (λ p. ⊎_elim
      (λ u.
      let x : get_or tri k 0 ≡ d = ap (λ (j : ℕ). get_or tri j 0) u ∙ sym qd in
      rw x (third _ (mark_there m₁ (get_or table d 0) (omega (arith, long₁)))))
      (λ u.
      let w : k ≡ 3 * t + 2 = omega arith in
      let x : get_or tri k 0 ≡ e = ap (λ (j : ℕ). get_or tri j 0) w ∙ sym qe in
      rw x (mark_there m₂ (get_or table e 0) (omega (arith, long₂))))
      (eq_or_ne k (3 * t + 1)))
      (eq_or_ne k (3 * t)))
      (lt_or_ge k (3 * t))
    where
      m₁ : List ℕ
      m₁ = set m (get_or table a 0 / 24) 1

      m₂ : List ℕ
      m₂ = set m₁ (get_or table d 0 / 24) 1

      long₁ : length m₁ ≡ 16384
      long₁ = length-set m (get_or table a 0 / 24) 1 ∙ long

      long₂ : length m₂ ≡ 16384
      long₂ = length-set m₁ (get_or table d 0 / 24) 1 ∙ long₁

      second : (x : ℕ) → mark_of m₁ x ≢ 0 → mark_of m₂ x ≢ 0
      second x n = mark_kept m₁ (get_or table d 0 / 24) x (omega (arith, long₁)) n

      third : (x : ℕ) → mark_of m₂ x ≢ 0 → mark_of (set m₂ (get_or table e 0 / 24) 1) x ≢ 0
      third x n = mark_kept m₂ (get_or table e 0 / 24) x (omega (arith, long₂)) n

-- the marks at first, none of them set
pub no_marks : length (replicate {A = ℕ} 16384 0) ≡ 16384
no_marks = length-replicate {A = ℕ} 16384 0

-- all three sites of a triangle marked
pub covers_three : (b : BoundingBox) (vs : List Point) (tri table m : List ℕ) (t : ℕ)
    → ((k : ℕ) → k < length tri → (get_or tri k 0 < length table) × (get_or table (get_or tri k 0) 0 < 393216)) → t < length tri / 3
    → {m₁ m₂ m₃ : List ℕ} → m₁ ≡ set m (get_or table (get_or tri (3 * t) 0) 0 / 24) 1 → m₂ ≡ set m₁ (get_or table (get_or tri (3 * t + 1) 0) 0 / 24) 1
    → m₃ ≡ set m₂ (get_or table (get_or tri (3 * t + 2) 0) 0 / 24) 1 → length m ≡ 16384 → Covers b vs tri table m (3 * t)
    → (length m₃ ≡ 16384) × Covers b vs tri table m₃ (3 * (t + 1))
covers_three b vs tri table m t each l {m₁} {m₂} e₁ e₂ e₃ long cov = (
  ap length e₃
      ∙ length-set m₂ (get_or table (get_or tri (3 * t + 2) 0) 0 / 24) 1
      ∙ ap length e₂
      ∙ length-set m₁ (get_or table (get_or tri (3 * t + 1) 0) 0 / 24) 1
      ∙ ap length e₁
      ∙ length-set m (get_or table (get_or tri (3 * t) 0) 0 / 24) 1
      ∙ long,
  rw (e₃, e₂, e₁) (covers_out b vs tri table m t _ _ _ refl refl refl long (each (3 * t) (omega arith)).1 (each (3 * t + 1) (omega arith)).1 (each (3 * t + 2) (omega arith)).1 cov),
)

-- whether a site is early
module _ (he table m : List ℕ) (s t : ℕ) (q : t ≡ get_or table s 0) where
  pub early_not : (t < length he → pair_of he t ≢ EMPTY → mark_of m t ≡ 0 → ⊥) → MadeLast he table m s → ⊥
  early_not n e = n (rw q e.entry) (rw q e.inner) (rw q e.unmarked)

  pub early_says : t < length he → mark_of m t ≡ 0 → (r : Bool) → r ≡ not (eqb (pair_of he t) EMPTY) → Says r (MadeLast he table m s)
  early_says l z r k = by (eqb (pair_of he t) EMPTY) refl r k
    where
      by : (x : Bool) → eqb (pair_of he t) EMPTY ≡ x → (r : Bool) → r ≡ not x → Says r (MadeLast he table m s)
      by true y true k = absurd (true_false refl k)
      by true y false k = λ e. e.inner (rw q at (eqb-true (pair_of he t) EMPTY y))
      by false y true k = record { entry = rw (← q) l; inner = rw (← q) (eqb-false (pair_of he t) EMPTY y); unmarked = rw (← q) z }
      by false y false k = absurd (true_false k refl)

-- whether a half-edge is not marked
pub unmarked_says : (m : List ℕ) (e : ℕ) (r : Bool) → r ≡ eqb (mark_of m e) 0 → Says r (mark_of m e ≡ 0)
unmarked_says m e true k = eqb-true (mark_of m e) 0 (sym k)
unmarked_says m e false k = eqb-false (mark_of m e) 0 (sym k)

-- ---- the half-edges of a walk, one after the other

module _ (he : List ℕ) (s : ℕ) where
  -- what is left of the walk, and that it gets less
  pub marking_settled : (tri : List ℕ) → Paired tri he → (e : ℕ) → e ≡ s → Settled he s e
  marking_settled tri ok e q = rw q (settled_start tri he ok s)

  pub marking_on : (e : ℕ) → e < length he → Settled he s e → (x : ℕ) → x ≡ turn_of he s e → Settled he s x × (length (rest_of he s x) < length (rest_of he s e))
  marking_on e l ok x q = rw q (rest_settled he s e ok l, omega (arith, ap length (rest_step_lem he s e ok l)))

module _ (he m₀ : List ℕ) (s : ℕ) where
  -- at half-edge e those before it are marked
  pub record MarkingWalk (m : List ℕ) (e : ℕ) : Type 0 where
    pub long : length m ≡ 16384
    pub stay : MarksStay m₀ m
    pub each : (h : ℕ) → 0 < occ h (whole_of he s) → (mark_of m h ≢ 0) ⊎ (0 < occ h (rest_of he s e))

  pub marking_start : length m₀ ≡ 16384 → (e : ℕ) → e ≡ s → MarkingWalk m₀ e
  marking_start long e q = record { long = long; stay = λ x n. n; each = λ h o. inr (rw q o) }

  pub marking_step : (m : List ℕ) (e : ℕ) → e < length he → length he ≤ 393216 → Settled he s e → MarkingWalk m e → (x : ℕ) → x ≡ turn_of he s e → MarkingWalk (set m (e / 24) 1) x
  marking_step m e l few ok w x q = record {
    long = length-set m (e / 24) 1 ∙ w.long;
    stay = λ y n. mark_kept m (e / 24) y here (w.stay y n);
    each = λ h o. ⊎_elim (λ n. inl (mark_kept m (e / 24) h here n)) (λ r. goes h (rw (rest_step_lem he s e ok l) at r)) (w.each h o);
  }
    where
      here : e / 24 < length m
      here = omega (arith, w.long)

      goes : (h : ℕ) → 0 < occ h (e ∷ rest_of he s (turn_of he s e)) → (mark_of (set m (e / 24) 1) h ≢ 0) ⊎ (0 < occ h (rest_of he s x))
      goes h r = ⊎_elim (λ z. inl (rw z (mark_there m e here))) (λ z. inr (rw q (omega (arith, r, z)))) (other h)
        where
          other : (h : ℕ) → (h ≡ e) ⊎ (same h e ≡ 0)
          other h = ⊎_elim (λ y. inl y.0) (λ y. inr y.1) (same_cases h e)

  pub marking_end : (m : List ℕ) (e : ℕ) → length he ≤ e → MarkingWalk m e → (length m ≡ 16384) × MarksStay m₀ m × WalkMarked he m s
  marking_end m e l w = (w.long, w.stay, λ h o. ⊎_elim (λ n. n) (λ r. absurd (omega (arith, rw (rest_done he s e l) at r))) (w.each h o))

-- ---- the hull's places, one after the other

module _ (he hull table ix off m₀ : List ℕ) where
  pub record MarkingHull (m : List ℕ) (i : ℕ) : Type 0 where
    pub long : length m ≡ 16384
    pub stay : MarksStay m₀ m
    pub told : (k : ℕ) → k < i → HullTold he hull table ix off m k

  pub hull_start : length m₀ ≡ 16384 → MarkingHull m₀ 0
  hull_start long = record { long = long; stay = λ x n. n; told = λ k l. absurd (omega arith) }

  pub hull_step_lem : (m : List ℕ) (i : ℕ) → MarkingHull m i → (m₁ : List ℕ)
      → (length m₁ ≡ 16384) × MarksStay m m₁ × ((get_or ix (get_or off (get_or hull i 0) 0) 0 ≢ EMPTY) ⊎ WalkMarked he m₁ (get_or table (get_or hull i 0) 0)) → MarkingHull m₁ (i + 1)
  hull_step_lem m i w m₁ d = record {
    long = d.0;
    stay = λ x n. d.1 x (w.stay x n);
    told = λ k l. ⊎_elim (λ z. rw z d.2) (λ z. ⊎_elim (λ x. inl x) (λ x. inr (λ h o. d.1 h (x h o))) (w.told k (omega (arith, l, z)))) (eq_or_ne k i);
  }

  pub hull_end_lem : (m : List ℕ) (i n : ℕ) → n ≤ i → MarkingHull m i → MarkingHull m n
  hull_end_lem m i n h w = record { long = w.long; stay = w.stay; told = λ k l. w.told k (omega arith) }
