-- What is left of the neighbours at a cursor: each step takes the first of them, and it stands in a triangle.
use Rattle.std.specs.Prelude.{◌≡◌, List, [], ◌∷◌, Bool, ℕ, suc, ◌≤◌, ◌<◌, ◌%◌, ltb, eqb, length, Option, Some, None}
use Rattle.std.proofs.Math.Path.{refl, sym, ap}
use Rattle.std.proofs.Common.{◌∙◌, subst, arith}
use Rattle.std.proofs.Math.Logic.{⊎_elim}
use Rattle.std.proofs.Math.Bool.{true, false}
use borrow.Author.Tests.{lt-ltb, le-ltb}
use Rattle.base.specs.common.Pick.{pick}
use Rattle.base.specs.common.laws.Decide.{lt_or_ge}
use Rattle.base.specs.numbers.Numbers.{EMPTY}
use Rattle.mesh.specs.Mesh.{next_of, start_of, end_of, around, turn_of, whole_of}
use Rattle.mesh.specs.laws.WalkSteps.{walk_done}
use Rattle.base.specs.common.Count.{occ}
use Rattle.walks.specs.declared.neighbours.Cursor.{Cursor}
use Rattle.walks.specs.neighbours.Neighbours.{last_end, starts_of}
use Rattle.walks.specs.neighbours.laws.Neighbours.{sites_from, starts_cons}
use Rattle.walks.specs.neighbours.Cursor.{rest_of, cursor, cursor_from, last_step, step_of, CursorSettled}
use Rattle.walks.specs.neighbours.laws.Rest.{rest_done, rest_step_lem, rest_settled}
use Rattle.walks.specs.neighbours.laws.Used.{InUse, walk_used, starts_used}

-- what is left of the neighbours
unfoldable pub neighbours_left : List ℕ → List ℕ → Cursor → List ℕ
neighbours_left tri he c =
    pick (ltb c.last (length he)) (λ _. sites_from tri he c.last (rest_of he c.start c.next)) (λ _. starts_of tri he (rest_of he c.start c.next))

-- what a step tells of what is left
abbrev pub StepTakes : List ℕ → List ℕ → List ℕ → Option (ℕ × Cursor) → Type 0
StepTakes tri he left (Some p) = (left ≡ p.0 ∷ neighbours_left tri he p.1) × CursorSettled he p.1
StepTakes tri he left None = left ≡ []

-- the step by its tests; the values as the code has them
module _ (tri he : List ℕ) (c : Cursor) where
  pub step_walks : (e x t : ℕ) → e ≡ c.next → e < length he → x ≡ start_of tri e → t ≡ turn_of he c.start e → Some (x, cursor c.start t c.next) ≡ step_of tri he c
  unfolding step_of
  step_walks e x t q l p r =
      rw (lt-ltb c.next (length he) (rw (← q) l)) (cc)

  pub step_last : (e f : ℕ) (r : Option (ℕ × Cursor)) → e ≡ c.next → length he ≤ e → f ≡ c.last → f < length he → r ≡ last_step tri he c.start f → r ≡ step_of tri he c
  unfolding step_of
  step_last e f r q l p k h = rw (le-ltb c.next (length he) (rw (← q) l), lt-ltb c.last (length he) (rw (← p) k)) (cc)

  pub step_end : (e f : ℕ) → e ≡ c.next → length he ≤ e → f ≡ c.last → length he ≤ f → None ≡ step_of tri he c
  unfolding step_of
  step_end e f q l p k = rw (le-ltb c.next (length he) (rw (← q) l), le-ltb c.last (length he) (rw (← p) k))

-- a step takes the first of what is left, and ends where nothing is
module _ (tri he : List ℕ) (small : length he ≤ EMPTY) where
  left_past : (s e l : ℕ) → l < length he → neighbours_left tri he (cursor s e l) ≡ sites_from tri he l (rest_of he s e)
  unfolding neighbours_left
  left_past s e l h = rw (lt-ltb l (length he) h)

  left_first : (s e l : ℕ) → length he ≤ l → neighbours_left tri he (cursor s e l) ≡ starts_of tri he (rest_of he s e)
  unfolding neighbours_left
  left_first s e l h = rw (le-ltb l (length he) h)

  left_none : (s : ℕ) → neighbours_left tri he (cursor s EMPTY EMPTY) ≡ []
  unfolding starts_of
  left_none s = left_first s EMPTY EMPTY small ∙ ap (starts_of tri he) (rest_done he s EMPTY small)

  last_took : (s e : ℕ) → StepTakes tri he (last_end tri he e) (last_step tri he s e)
  unfolding last_end last_step
  last_took s e = go (eqb (around he e) EMPTY)
    where
      go : (b : Bool) → StepTakes tri he (pick b (λ _. end_of tri (next_of e) ∷ []) (λ _. [])) (pick b (λ _. Some (end_of tri (next_of e), cursor s EMPTY EMPTY)) (λ _. None))
      go true = (ap (λ l. end_of tri (next_of e) ∷ l) (sym (left_none s)), walk_done he s (suc (length he)) EMPTY small ∙ sym (rest_done he s EMPTY small))
      go false = refl

  pub step_took : (c : Cursor) → CursorSettled he c → StepTakes tri he (neighbours_left tri he c) (step_of tri he c)
  unfolding sites_from starts_of
  step_took c ok =
      let s = c.start in
      let e = c.next in
      let l = c.last in
      ⊎_elim
      (λ h.
      let d = left_past s (turn_of he s e) e h in
      rw (← step_walks tri he c e (start_of tri e) (turn_of he s e) refl h refl refl) (
        ⊎_elim
            (λ k. left_past s e l k ∙ ap (sites_from tri he l) (rest_step_lem he s e ok h) ∙ ap (λ r. start_of tri e ∷ r) (sym d))
            (λ k. left_first s e l k ∙ ap (starts_of tri he) (rest_step_lem he s e ok h) ∙ starts_cons tri he e (rest_of he s (turn_of he s e)) ∙ ap (λ r. start_of tri e ∷ r) (sym d))
            (lt_or_ge l (length he)),
        rest_settled he s e ok h,
      ))
      (λ h. ⊎_elim
      (λ k. rw (left_past s e l k, rest_done he s e h, ← step_last tri he c e l (last_step tri he s l) refl h refl k refl) (last_took s l))
      (λ k. rw (left_first s e l k, rest_done he s e h, ← step_end tri he c e l refl h refl k))
      (lt_or_ge l (length he)))
      (lt_or_ge e (length he))

  -- so of what a call of the step gave
  pub came_took : (c : Cursor) → CursorSettled he c → (r : Option (ℕ × Cursor)) → r ≡ step_of tri he c → StepTakes tri he (neighbours_left tri he c) r
  came_took c ok r q = rw q (step_took c ok)

  -- before the first step all of them are left
  pub left_fresh : (s : ℕ) → neighbours_left tri he (cursor_from s) ≡ starts_of tri he (whole_of he s)
  left_fresh s = left_first s s EMPTY small

module _ (tri he : List ℕ) (threes : length he % 3 ≡ 0) (even : length he ≡ length tri) where
  pub left_used : (c : Cursor) → InUse tri (neighbours_left tri he c)
  unfolding neighbours_left
  left_used c =
      ⊎_elim
      (λ l. rw (lt-ltb c.last (length he) l) (walk_used tri he threes even c.start (length he) c.next c.last l))
      (λ l. rw (le-ltb c.last (length he) l) (starts_used tri he threes even c.start (length he) c.next))
      (lt_or_ge c.last (length he))

  pub coming_used : length he ≤ EMPTY → (c d : Cursor) (x : ℕ) → CursorSettled he c → Some (x, d) ≡ step_of tri he c → 0 < occ x tri
  coming_used small c d x ok q =
      let t = came_took tri he small c ok (Some (x, d)) q in
      subst (InUse tri) t.0 (left_used c) 0 (omega arith)
