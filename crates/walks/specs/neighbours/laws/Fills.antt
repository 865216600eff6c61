-- The state of a loop that hands out a list: what it has written and what is left are the whole together.
use Rattle.std.specs.Prelude.{◌≡◌, refl, List, [], ◌∷◌, ◌++◌, Bool, true, false, ℕ, ◌+◌, ◌≤◌, ◌<◌, leb, eqb, length, set, take, drop}
use Rattle.std.proofs.Common.{sym, ap, ◌∙◌, append-nil, append_assoc, add-one, arith, length-append, length-set, take-append-drop, take_all, take_at, take-suc-set, drop-set-lt, length-take-le, drop-drop, le-leb, eqb-true, ne_eqb}
use Rattle.std.proofs.lemmas.Bool.{lt-leb, eqb-false}
use Rattle.walks.specs.neighbours.Fills.{Fills}

-- n entries are written, and rest is left of the whole
pub record Filling (whole rest old new : List ℕ) (n : ℕ) : Type 0 where
  pub room : n ≤ length old
  pub long : length new ≡ length old
  pub split : take n new ++ rest ≡ whole
  pub tail : drop n new ≡ drop n old

pub filling_start : (whole old : List ℕ) → Filling whole whole old old 0
filling_start whole old = record { room = omega arith; long = refl; split = refl; tail = refl }

module _ {whole rest old new : List ℕ} {n : ℕ} (g : Filling whole rest old new n) where
  pub filling_step : (x : ℕ) (more : List ℕ) → n < length old → rest ≡ x ∷ more → Filling whole more old (set new n x) (n + 1)
  filling_step x more l q = record {
    room = omega arith;
    long = length-set new n x ∙ g.long;
    split = rw (add-one n, take-suc-set new n x (omega (arith, g.long)), append_assoc) (ap (λ r. take n new ++ r) (sym q) ∙ g.split);
    tail = drop-set-lt (n + 1) new n x (omega arith) ∙ sym (drop-drop 1 n new) ∙ ap (drop 1) g.tail ∙ drop-drop 1 n old;
  }

  written : length (take n new) ≡ n
  written = length-take-le n new (omega (arith, g.room, g.long))

  whole_length : length whole ≡ n + length rest
  whole_length = sym (ap length g.split) ∙ length-append (take n new) rest ∙ ap (λ k. k + length rest) written

  so_far : (b : Bool) → take (length old) whole ≡ take n new → b ≡ leb (length whole) (length old) → Fills whole old new n b
  so_far b w o = record {
    counted = rw w (sym written);
    entries = rw (w, ← g.tail) (sym (take-append-drop n new));
    over = o;
  }

  -- nothing is left
  pub filling_done : rest ≡ [] → Fills whole old new n true
  filling_done q =
      let all : take n new ≡ whole = sym (append-nil (take n new)) ∙ ap (λ r. take n new ++ r) (sym q) ∙ g.split in
      let z : length whole ≤ length old = omega (arith, whole_length, ap length q, g.room) in
      so_far true (take_all (length old) whole z ∙ sym all) (sym (le-leb (length whole) (length old) z))

  -- the room is full
  pub filling_full : (b : Bool) → length old ≤ n → b ≡ eqb (length rest) 0 → Fills whole old new n b
  filling_full b h o =
      let z : length old ≡ n = omega (arith, g.room) in
      so_far b (rw (z, ← g.split) (take_at (take n new) rest n written)) (o ∙ go (eqb (length rest) 0) refl)
    where
      go : (t : Bool) → eqb (length rest) 0 ≡ t → t ≡ leb (length whole) (length old)
      go true q = sym (le-leb (length whole) (length old) (omega (arith, whole_length, eqb-true (length rest) 0 q, g.room)))
      go false q = sym (lt-leb (length whole) (length old) (omega (arith, whole_length, eqb-false (length rest) 0 q)))

  pub filling_more : (x : ℕ) (more : List ℕ) → length old ≤ n → rest ≡ x ∷ more → Fills whole old new n false
  filling_more x more h q = filling_full false h (sym (ne_eqb (length rest) 0 (λ z. omega (arith, ap length q))))
