-- What the judgement of the neighbour that comes tells of the clipped neighbours that are left.
use Rattle.std.specs.Prelude.{◌≡◌, List, [], ◌∷◌, ◌++◌, Bool, true, false, eqb, length, get_or, Option, Some, None}
use Rattle.std.proofs.Math.Path.{refl, ap}
use Rattle.std.proofs.Common.{sym, ◌∙◌, subst, arith}
use Rattle.std.proofs.Math.Logic.{⊎_elim}
use Prim.Native.Nat.{ℕ, suc, ◌≤◌, ◌<◌}
use borrow.Author.Tests.{lt-ltb, le-ltb, eq-eqb, ne_eqb}
use Rattle.base.specs.common.Pick.{pick}
use Rattle.base.specs.common.laws.Decide.{lt_or_ge}
use Rattle.base.specs.numbers.Numbers.{EMPTY}
use Rattle.mesh.specs.Mesh.{next_of, start_of, end_of, pair_of, around, turn_of, whole_of}
use Rattle.mesh.specs.laws.WalkSteps.{walk_done}
use Rattle.walks.specs.declared.neighbours.Cursor.{Cursor}
use Rattle.walks.specs.neighbours.Neighbours.{last_end}
use Rattle.walks.specs.neighbours.Cursor.{rest_of, cursor, cursor_from, last_step, step_of, CursorSettled}
use Rattle.walks.specs.neighbours.laws.Rest.{rest_done, rest_step_lem, rest_settled}
use Rattle.walks.specs.neighbours.laws.Cursor.{step_walks, step_last, step_end}
use Rattle.queries.specs.declared.clipped.Judgement.{Judgement}
use Rattle.queries.specs.declared.clipped.Judgement.TheVariants.{Counts, Dropped, Ends}
use Rattle.queries.specs.clipped.Clipped.{kept_of, clipped_from, clipped_first, clipped_of}
use Rattle.queries.specs.clipped.ClippedCursor.{judge_of, clipped_left}

-- the judgement by its tests
module _ (he : List ℕ) (keep : Bool) (passed last a b : ℕ) (p : a ≡ last) (q : b ≡ passed) where
  pub judge_last : length he ≤ a → pick {A = Judgement} keep (λ _. Counts) (λ _. Ends) ≡ judge_of he keep passed last
  unfolding judge_of
  judge_last h = rw (← p, le-ltb a (length he) h)

  pub judge_later : a < length he → b < length he → Counts ≡ judge_of he keep passed last
  unfolding judge_of
  judge_later h k = rw (← p, ← q, lt-ltb a (length he) h, lt-ltb b (length he) k)

  pub judge_inner : a < length he → length he ≤ b → (get_or he a 0 ≡ EMPTY → ⊥) → Counts ≡ judge_of he keep passed last
  unfolding judge_of
  judge_inner h k n = rw (← p, ← q, lt-ltb a (length he) h, le-ltb b (length he) k, ne_eqb (get_or he a 0) EMPTY n)

  pub judge_first : a < length he → length he ≤ b → get_or he a 0 ≡ EMPTY → pick {A = Judgement} keep (λ _. Counts) (λ _. Dropped) ≡ judge_of he keep passed last
  unfolding judge_of
  judge_first h k n = rw (← p, ← q, lt-ltb a (length he) h, le-ltb b (length he) k, eq-eqb (get_or he a 0) EMPTY n)

module _ (tri he : List ℕ) (keeps : ℕ → Bool) where
  -- what the judgement of x tells, d being the cursor past it
  abbrev pub Tells : Cursor → ℕ → Cursor → Judgement → Type 0
  Tells c x d Counts = (clipped_left tri he keeps c ≡ x ∷ clipped_left tri he keeps d) × CursorSettled he d
  Tells c x d Dropped = (clipped_left tri he keeps c ≡ clipped_left tri he keeps d) × CursorSettled he d × (length (rest_of he d.start d.next) < length (rest_of he c.start c.next))
  Tells c x d Ends = clipped_left tri he keeps c ≡ []

  abbrev pub ClippedTells : Cursor → Option (ℕ × Cursor) → Type 0
  ClippedTells c (Some p) = Tells c p.0 p.1 (judge_of he (keeps p.0) c.last p.1.last)
  ClippedTells c None = clipped_left tri he keeps c ≡ []

  kept_one : (x : ℕ) → keeps x ≡ true → kept_of keeps (x ∷ []) ≡ x ∷ []
  unfolding kept_of
  kept_one x w = rw w

  kept_none : (x : ℕ) → keeps x ≡ false → kept_of keeps (x ∷ []) ≡ []
  unfolding kept_of
  kept_none x w = rw w

  kept_nil : kept_of keeps [] ≡ []
  unfolding kept_of
  kept_nil = refl

  first_hull : (e : ℕ) → eqb (pair_of he e) EMPTY ≡ true → clipped_first tri he keeps e ≡ kept_of keeps (start_of tri e ∷ [])
  unfolding clipped_first
  first_hull e v = rw v

  first_inner : (e : ℕ) → eqb (pair_of he e) EMPTY ≡ false → clipped_first tri he keeps e ≡ start_of tri e ∷ []
  unfolding clipped_first
  first_inner e v = rw v

  module _ (small : length he ≤ EMPTY) where
    left_past : (s e l : ℕ) → l < length he → clipped_left tri he keeps (cursor s e l) ≡ clipped_from tri he keeps l (rest_of he s e)
    unfolding clipped_left
    left_past s e l h = rw (lt-ltb l (length he) h)

    left_first : (s e l : ℕ) → length he ≤ l → clipped_left tri he keeps (cursor s e l) ≡ clipped_of tri he keeps (rest_of he s e)
    unfolding clipped_left
    left_first s e l h = rw (le-ltb l (length he) h)

    left_none : (s : ℕ) → clipped_left tri he keeps (cursor s EMPTY EMPTY) ≡ []
    unfolding clipped_of
    left_none s = left_first s EMPTY EMPTY small ∙ ap (clipped_of tri he keeps) (rest_done he s EMPTY small)

    -- a half-edge of the walk comes
    walk_clips : (s e l : ℕ) → CursorSettled he (cursor s e l) → e < length he → Tells (cursor s e l) (start_of tri e) (cursor s (turn_of he s e) e) (judge_of he (keeps (start_of tri e)) l e)
    unfolding judge_of clipped_from clipped_of
    walk_clips s e l ok h =
        rw (lt-ltb e (length he) h) (⊎_elim
        (λ k. rw (lt-ltb l (length he) k) (left_past s e l k ∙ ap (clipped_from tri he keeps l) opened ∙ ap (λ r. x ∷ r) past, rest_settled he s e ok h))
        (λ k. rw (le-ltb l (length he) k) (first (left_first s e l k ∙ ap (clipped_of tri he keeps) opened) (eqb (pair_of he e) EMPTY) refl (keeps x) refl))
        (lt_or_ge l (length he)))
      where
        x : ℕ
        x = start_of tri e

        opened : rest_of he s e ≡ e ∷ rest_of he s (turn_of he s e)
        opened = rest_step_lem he s e ok h

        rest : List ℕ
        rest = clipped_from tri he keeps e (rest_of he s (turn_of he s e))

        past : clipped_from tri he keeps e (rest_of he s (turn_of he s e)) ≡ clipped_left tri he keeps (cursor s (turn_of he s e) e)
        past = sym (left_past s (turn_of he s e) e h)

        first :
            clipped_left tri he keeps (cursor s e l) ≡ clipped_first tri he keeps e ++ clipped_from tri he keeps e (rest_of he s (turn_of he s e))
            → (u : Bool) → eqb (pair_of he e) EMPTY ≡ u → (b : Bool) → keeps x ≡ b
            → Tells (cursor s e l) x (cursor s (turn_of he s e) e) (pick u (λ _. pick b (λ _. Counts) (λ _. Dropped)) (λ _. Counts))
        first q true v true w = (q ∙ ap (λ r. r ++ rest) (first_hull e v ∙ kept_one x w) ∙ ap (λ r. x ∷ r) past, rest_settled he s e ok h)
        first q true v false w = (
          q ∙ ap (λ r. r ++ rest) (first_hull e v ∙ kept_none x w) ∙ past,
          rest_settled he s e ok h,
          omega (arith, ap length opened),
        )
        first q false v b w = (q ∙ ap (λ r. r ++ rest) (first_inner e v) ∙ ap (λ r. x ∷ r) past, rest_settled he s e ok h)

    -- the walk is over, and on the hull its last end comes
    last_clips : (s e l : ℕ) → length he ≤ e → l < length he → ClippedTells (cursor s e l) (last_step tri he s l)
    unfolding judge_of clipped_from last_end last_step
    last_clips s e l h k = go (left_past s e l k ∙ ap (clipped_from tri he keeps l) (rest_done he s e h)) (eqb (around he l) EMPTY) refl
      where
        x : ℕ
        x = end_of tri (next_of l)

        judged : clipped_left tri he keeps (cursor s e l) ≡ kept_of keeps (x ∷ [])
            → (b : Bool) → keeps x ≡ b → Tells (cursor s e l) x (cursor s EMPTY EMPTY) (pick b (λ _. Counts) (λ _. Ends))
        judged q true w = (q ∙ kept_one x w ∙ ap (λ r. x ∷ r) (sym (left_none s)), walk_done he s (suc (length he)) EMPTY small ∙ sym (rest_done he s EMPTY small))
        judged q false w = q ∙ kept_none x w

        go :
            clipped_left tri he keeps (cursor s e l) ≡ kept_of keeps (pick (eqb (around he l) EMPTY) (λ _. x ∷ []) (λ _. []))
            → (b : Bool) → eqb (around he l) EMPTY ≡ b
            → ClippedTells (cursor s e l) (pick b (λ _. Some (x, cursor s EMPTY EMPTY)) (λ _. None))
        go q true v = rw (le-ltb EMPTY (length he) small) (judged (rw v at q) (keeps x) refl)
        go q false v = (rw v at q) ∙ kept_nil

    pub clip_step_lem : (c : Cursor) → CursorSettled he c → ClippedTells c (step_of tri he c)
    unfolding clipped_of
    clip_step_lem c ok =
        let s = c.start in
        let e = c.next in
        let l = c.last in
        ⊎_elim
        (λ h. rw (← step_walks tri he c e (start_of tri e) (turn_of he s e) refl h refl refl) (walk_clips s e l ok h))
        (λ h. ⊎_elim
        (λ k. rw (← step_last tri he c e l (last_step tri he s l) refl h refl k refl) (last_clips s e l h k))
        (λ k. rw (← step_end tri he c e l refl h refl k) (left_first s e l k ∙ ap (clipped_of tri he keeps) (rest_done he s e h)))
        (lt_or_ge l (length he)))
        (lt_or_ge e (length he))

    module _ (c : Cursor) (ok : CursorSettled he c) where
      -- a neighbour came and was judged; or none came
      pub came : (x : ℕ) (d : Cursor) (j : Judgement) → Some (x, d) ≡ step_of tri he c → j ≡ judge_of he (keeps x) c.last d.last → Tells c x d j
      came x d j q e = rw e (subst (ClippedTells c) (sym q) (clip_step_lem c ok))

      pub none_came : None ≡ step_of tri he c → clipped_left tri he keeps c ≡ []
      none_came q = subst (ClippedTells c) (sym q) (clip_step_lem c ok)

    -- before the first step all of them are left
    pub clipped_fresh : (s : ℕ) → clipped_left tri he keeps (cursor_from s) ≡ clipped_of tri he keeps (whole_of he s)
    clipped_fresh s = left_first s s EMPTY small
