-- Theorem: in the walk of a site each half-edge is the one round the site after the one before, and the last comes back to the first or to the border (`whole_linked`).
use Rattle.std.specs.Prelude.{◌≡◌, refl, List, [], ◌∷◌, ◌⊎◌, ℕ, zero, suc, ◌≤◌, ◌<◌, length}
use Rattle.std.proofs.Common.{sym, ap, ◌∙◌, inl, inr, ⊎_elim, arith}
use Rattle.base.specs.common.laws.Decide.{lt_or_ge}
use Rattle.base.specs.numbers.Numbers.{EMPTY}
use Rattle.mesh.specs.Mesh.{around, turn_of, walk_of, whole_of, Paired}
use Rattle.mesh.specs.laws.WalkSteps.{walk_go, walk_done}
use Rattle.mesh.specs.laws.Walks.{turn_cases, walk_fuel}

abbrev pub WalkLinked : List ℕ → ℕ → List ℕ → Type 0
WalkLinked he t [] = Unit {0}
WalkLinked he t (e ∷ []) = (around he e ≡ t) ⊎ (length he ≤ around he e)
WalkLinked he t (e ∷ f ∷ r) = (around he e ≡ f) × (f < length he) × WalkLinked he t (f ∷ r)

abbrev rest_of : List ℕ → List ℕ
rest_of [] = []
rest_of (e ∷ r) = r

abbrev head_of : List ℕ → ℕ
head_of [] = 0
head_of (e ∷ r) = e

no_walk : (he : List ℕ) (t e : ℕ) → walk_of he t zero e ≡ []
unfolding walk_of
no_walk he t e = refl

module _ (he : List ℕ) (t : ℕ) (small : length he < EMPTY) where
  -- one step, where the walk goes on at u, by the walk's two forms with one step more
  step : (k e : ℕ) (w : List ℕ) → walk_of he t k (turn_of he t e) ≡ w → walk_of he t (suc k) (turn_of he t e) ≡ w → WalkLinked he t w → WalkLinked he t (e ∷ w)
  step k e [] q q' h =
      ⊎_elim
      (λ l. absurd (omega (arith, ap length (sym (walk_go he t k (turn_of he t e) l) ∙ q'))))
      (λ l. ⊎_elim (λ c. inl c.0) (λ c. inr (rw (← c.1) l)) (turn_cases he t e))
      (lt_or_ge (turn_of he t e) (length he))
  step k e (f ∷ r) q q' h =
      ⊎_elim
      (λ l.
      let here : turn_of he t e ≡ f = ap head_of (sym (walk_go he t k (turn_of he t e) l) ∙ q') in
      let there : around he e ≡ turn_of he t e = ⊎_elim (λ c. absurd (omega (arith, c.1))) (λ c. sym c.1) (turn_cases he t e) in
      (there ∙ here, rw (← here) l, h))
      (λ l. absurd (omega (arith, ap length (sym (walk_done he t k (turn_of he t e) l) ∙ q))))
      (lt_or_ge (turn_of he t e) (length he))

  -- a walk that one step more does not lengthen
  linked : (k e : ℕ) → walk_of he t (suc k) e ≡ walk_of he t k e → WalkLinked he t (walk_of he t k e)
  linked zero e q = rw (no_walk he t e) tt
  linked (suc k) e q = go (linked k (turn_of he t e))
    where
      go : (walk_of he t (suc k) (turn_of he t e) ≡ walk_of he t k (turn_of he t e) → WalkLinked he t (walk_of he t k (turn_of he t e))) → WalkLinked he t (walk_of he t (suc k) e)
      go before =
          ⊎_elim
          (λ l.
          let more : walk_of he t (suc k) (turn_of he t e) ≡ walk_of he t k (turn_of he t e) = ap rest_of (sym (walk_go he t (suc k) e l) ∙ q ∙ walk_go he t k e l) in
          rw (walk_go he t k e l) (step k e (walk_of he t k (turn_of he t e)) refl more (before more)))
          (λ l. rw (walk_done he t (suc k) e l) tt)
          (lt_or_ge e (length he))

  pub whole_linked : (tri : List ℕ) → Paired tri he → WalkLinked he t (whole_of he t)
  whole_linked tri ok = linked (length he) t (walk_fuel tri he ok t (suc (length he)) (omega arith))
