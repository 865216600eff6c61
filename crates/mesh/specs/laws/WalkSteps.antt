-- A walk, a half-edge at a time, and the two loops that follow one: what each keeps from turn to turn.
use Rattle.std.specs.Prelude.{◌≡◌, refl, Bool, ℕ, zero, suc, ◌+◌, ◌-◌, ◌≤◌, ◌<◌, set, take, drop}
use Rattle.std.proofs.Common.{sym, ap, ◌∙◌, ⊎_elim, zero-add, add-one, arith, take-append-drop, length-set, take-suc-set, drop-set-lt, length-take-le, drop-drop, lt-ltb, le-ltb, le-leb, leb-true, leb-false}
use mathlib.Core.List.{List, [], ◌∷◌, ◌++◌, append-nil, append_assoc}
use Rattle.std.proofs.Math.Bool.{true, false}
use Rattle.std.proofs.Math.Nat.{sub-zero}
use Rattle.std.proofs.Math.Dec.{leb}
use Rattle.std.proofs.Math.ListN.{length, length-append}
use Rattle.std.proofs.lemmas.Bool.{lt-leb}
use Rattle.base.specs.common.laws.Decide.{lt_or_ge}
use Rattle.mesh.specs.Mesh.{turn_of, walk_of, whole_of, Walks}

-- the walk, past a half-edge and where there is none
pub walk_go : (he : List ℕ) (s j e : ℕ) → e < length he → walk_of he s (suc j) e ≡ e ∷ walk_of he s j (turn_of he s e)
unfolding walk_of
walk_go he s j e h = simp (lt-ltb _ _ h)

pub walk_done : (he : List ℕ) (s j e : ℕ) → length he ≤ e → walk_of he s j e ≡ []
unfolding walk_of
walk_done he s zero e h = refl
walk_done he s (suc j) e h = simp (le-ltb _ _ h)

-- no more entries than it is given steps
pub walk_length : (he : List ℕ) (s k e : ℕ) → length (walk_of he s k e) ≤ k
unfolding walk_of
walk_length he s zero e = omega arith
walk_length he s (suc k) e =
    ⊎_elim
    (λ l. omega (arith, ap length (walk_go he s k e l), walk_length he s k (turn_of he s e)))
    (λ l. omega (arith, ap length (walk_done he s (suc k) e l)))
    (lt_or_ge e (length he))

-- a walk with an allowance is the beginning of the whole one
pub walk_take : (he : List ℕ) (s k j e : ℕ) → walk_of he s k e ≡ take k (walk_of he s (k + j) e)
unfolding walk_of
walk_take he s zero j e = refl
walk_take he s (suc k) j e =
    let q : suc k + j ≡ suc (k + j) = omega arith in
    rw q (⊎_elim
    (λ l. rw (walk_go he s k e l, walk_go he s (k + j) e l, ← walk_take he s k j (turn_of he s e)))
    (λ l. rw (walk_done he s (suc k) e l, walk_done he s (suc (k + j)) e l))
    (lt_or_ge e (length he)))

-- the walk from s stands written below n, and goes on at e
pub record WalkGoing (he : List ℕ) (s : ℕ) (old new : List ℕ) (e n : ℕ) : Type 0 where
  pub room : n ≤ length old
  pub long : length new ≡ length old
  pub split : (j : ℕ) → take n new ++ walk_of he s j e ≡ walk_of he s (n + j) s
  pub rest : drop n new ≡ drop n old

pub going_start : (he : List ℕ) (s : ℕ) (old : List ℕ) → WalkGoing he s old old s 0
going_start he s old = record { room = omega arith; long = refl; split = λ j. rw zero-add; rest = refl }

module _ (he : List ℕ) (s : ℕ) (old new : List ℕ) (e n : ℕ) (g : WalkGoing he s old new e n) where
  pub going_step : (x : ℕ) → n < length old → e < length he → x ≡ turn_of he s e → WalkGoing he s old (set new n e) x (n + 1)
  going_step x l h q = record {
    room = omega arith;
    long = length-set new n e ∙ g.long;
    split = λ j.
        let k : n + 1 + j ≡ n + suc j = omega arith in
        rw (k, add-one n, take-suc-set new n e (omega (arith, g.long)), append_assoc, q, ← walk_go he s j e h) (g.split (suc j));
    rest = drop-set-lt (n + 1) new n e (omega arith) ∙ sym (drop-drop 1 n new) ∙ ap (drop 1) g.rest ∙ drop-drop 1 n old;
  }

  written : length (take n new) ≡ n
  written = length-take-le n new (omega (arith, g.room, g.long))

  -- from where the walk has ended, more steps add nothing
  whole : length he ≤ e → (k : ℕ) → n ≤ k → walk_of he s k s ≡ take n new
  whole h k l =
      let q : k ≡ n + (k - n) = omega arith in
      rw q (sym (g.split (k - n)) ∙ rw (walk_done he s (k - n) e h, append-nil))

  so_far : walk_of he s (length old) s ≡ take n new → (b : Bool) → b ≡ leb (length (walk_of he s (length old + 1) s)) (length old) → Walks he s old new n b
  so_far w b o = record {
    counted = rw (w, written);
    entries = rw (w, ← g.rest) (sym (take-append-drop n new));
    over = o;
  }

  -- the walk is written whole
  pub going_done : length he ≤ e → Walks he s old new n true
  going_done h = so_far (whole h _ g.room) true (rw (whole h (length old + 1) (omega (arith, g.room)), written) (sym (le-leb _ _ g.room)))

  -- the room is full
  pub going_full : length old ≤ n → Walks he s old new n (leb (length he) e)
  unfolding walk_of
  going_full h =
      let q : length old ≡ n + 0 = omega (arith, g.room) in
      so_far (rw q (sym (g.split 0) ∙ append-nil (take n new))) (leb (length he) e) (go (leb (length he) e) refl)
    where
      go : (b : Bool) → leb (length he) e ≡ b → b ≡ leb (length (walk_of he s (length old + 1) s)) (length old)
      go true t = rw (whole (leb-true _ _ t) (length old + 1) (omega (arith, g.room)), written) (sym (le-leb _ _ g.room))
      go false t =
          let q : length old + 1 ≡ n + 1 = omega (arith, g.room) in
          rw (q, ← g.split 1, length-append, written, walk_go he s 0 e (leb-false _ _ t)) (sym (lt-leb (n + length (e ∷ walk_of he s 0 (turn_of he s e))) (length old) (omega arith)))

-- the walk from s has n entries up to e, and goes on there
pub record WalkCounting (he : List ℕ) (s e n : ℕ) : Type 0 where
  pub room : n ≤ length he
  pub sum : n + length (walk_of he s (length he - n) e) ≡ length (whole_of he s)

pub counting_start : (he : List ℕ) (s : ℕ) → WalkCounting he s s 0
counting_start he s = record { room = omega arith; sum = rw (zero-add, sub-zero) }

pub counting_step : (he : List ℕ) (s e n x : ℕ) → WalkCounting he s e n → n < length he → e < length he → x ≡ turn_of he s e → WalkCounting he s x (n + 1)
counting_step he s e n x g l h q =
    let k : length he - n ≡ suc (length he - (n + 1)) = omega arith in
    record {
      room = omega arith;
      sum = rw q (omega (arith, rw (k, walk_go he s (length he - (n + 1)) e h) at g.sum));
    }

pub counting_done : (he : List ℕ) (s e n : ℕ) → WalkCounting he s e n → length he ≤ e → n ≡ length (whole_of he s)
counting_done he s e n g h = omega (arith, g.sum, ap length (walk_done he s (length he - n) e h))

pub counting_full : (he : List ℕ) (s e n : ℕ) → WalkCounting he s e n → length he ≤ n → n ≡ length (whole_of he s)
unfolding walk_of
counting_full he s e n g h =
    let k : length he - n ≡ 0 = omega arith in
    omega (arith, rw k at g.sum)
