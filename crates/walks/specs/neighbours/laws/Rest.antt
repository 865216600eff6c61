-- What is left of a walk at each of its half-edges, where the walk ends by its own rule.
use Rattle.std.specs.Prelude.{◌≡◌, List, [], ◌∷◌, ℕ, zero, suc, ◌+◌, ◌-◌, ◌≤◌, ◌<◌, length}
use Rattle.std.proofs.Common.{sym, ap, ◌∙◌, subst, ⊎_elim, add-zero, arith}
use Rattle.base.specs.common.laws.Decide.{lt_or_ge}
use Rattle.mesh.specs.Mesh.{turn_of, walk_of, Paired}
use Rattle.mesh.specs.laws.WalkSteps.{walk_go, walk_done}
use Rattle.mesh.specs.laws.Walks.{walk_whole}
use Rattle.walks.specs.neighbours.Cursor.{rest_of, Settled}

tail_same : {x : ℕ} {l m : List ℕ} → x ∷ l ≡ x ∷ m → l ≡ m
tail_same q = cc

settled_more : (he : List ℕ) (s k e : ℕ) → walk_of he s (suc k) e ≡ walk_of he s k e → walk_of he s (suc (suc k)) e ≡ walk_of he s (suc k) e
unfolding walk_of
settled_more he s zero e h =
    ⊎_elim
    (λ l. absurd (omega (arith, ap length (sym (walk_go he s zero e l) ∙ h))))
    (λ l. walk_done he s (suc (suc zero)) e l ∙ sym (walk_done he s (suc zero) e l))
    (lt_or_ge e (length he))
settled_more he s (suc k) e h =
    ⊎_elim
    (λ l. walk_go he s (suc (suc k)) e l ∙ ap (λ r. e ∷ r) (settled_more he s k (turn_of he s e)
    (tail_same (sym (walk_go he s (suc k) e l) ∙ h ∙ walk_go he s k e l))) ∙ sym (walk_go he s (suc k) e l))
    (λ l. walk_done he s (suc (suc (suc k))) e l ∙ sym (walk_done he s (suc (suc k)) e l))
    (lt_or_ge e (length he))

settled_far : (he : List ℕ) (s k e : ℕ) → walk_of he s (suc k) e ≡ walk_of he s k e → (j : ℕ) → walk_of he s (suc (k + j)) e ≡ walk_of he s (k + j) e
settled_far he s k e h zero = subst (λ i. walk_of he s (suc i) e ≡ walk_of he s i e) (sym (add-zero k)) h
settled_far he s k e h (suc j) =
    let q : k + suc j ≡ suc (k + j) = omega arith in
    subst (λ i. walk_of he s (suc i) e ≡ walk_of he s i e) (sym q) (settled_more he s (k + j) e (settled_far he s k e h j))

-- and so does any more
pub walk_enough : (he : List ℕ) (s e : ℕ) → Settled he s e → (j : ℕ) → walk_of he s (length he + j) e ≡ rest_of he s e
walk_enough he s e h zero = ap (λ i. walk_of he s i e) (add-zero (length he))
walk_enough he s e h (suc j) =
    let q : length he + suc j ≡ suc (length he + j) = omega arith in
    ap (λ i. walk_of he s i e) q ∙ settled_far he s (length he) e h j ∙ walk_enough he s e h j

module _ (he : List ℕ) (s e : ℕ) where
  pub rest_done : length he ≤ e → rest_of he s e ≡ []
  rest_done l = walk_done he s (length he) e l

  -- past a half-edge
  module _ (ok : Settled he s e) (l : e < length he) where
    same_fuel : walk_of he s (suc (length he - 1)) (turn_of he s e) ≡ walk_of he s (length he - 1) (turn_of he s e)
    same_fuel =
        let q : length he ≡ suc (length he - 1) = omega arith in
        tail_same (sym (walk_go he s (suc (length he - 1)) e l) ∙ subst (λ k. walk_of he s (suc k) e ≡ walk_of he s k e) q ok ∙ walk_go he s (length he - 1) e l)

    pub rest_step_lem : rest_of he s e ≡ e ∷ rest_of he s (turn_of he s e)
    rest_step_lem =
        let q : length he ≡ suc (length he - 1) = omega arith in
        subst (λ k. walk_of he s k e ≡ e ∷ walk_of he s k (turn_of he s e)) (sym q) (walk_go he s (length he - 1) e l ∙ ap (λ r. e ∷ r) (sym same_fuel))

    pub rest_settled : Settled he s (turn_of he s e)
    rest_settled =
        let q : length he ≡ suc (length he - 1) = omega arith in
        subst (λ k. walk_of he s (suc k) (turn_of he s e) ≡ walk_of he s k (turn_of he s e)) (sym q) (settled_more he s (length he - 1) (turn_of he s e) same_fuel)

-- a walk on a mesh whose pairing is right
pub settled_start : (tri he : List ℕ) → Paired tri he → (s : ℕ) → Settled he s s
settled_start tri he ok s =
    ⊎_elim
    (λ l. walk_whole tri he ok s l)
    (λ l. walk_done he s (suc (length he)) s l ∙ sym (walk_done he s (length he) s l))
    (lt_or_ge s (length he))
