-- Theorem: a state that bytes lead to is read back from its words as itself, whatever words were there; every other is taken for one refused at byte 0.
use Rattle.std.specs.Prelude.{◌≡◌, refl, Bool, true, false, List, ◌++◌, ℕ, ◌≤◌, length, take, drop}
use Rattle.std.proofs.Common.{sym, ap, ◌∙◌, arith, inl}
use Rattle.std.proofs.Math.Seq.{length-sets}
use Rattle.base.specs.common.Pick.{pick}
use Rattle.base.specs.common.laws.Stores.{sets_all}
use Rattle.base.specs.numbers.Numbers.{refused_form}
use Rattle.form.specs.step.Reader.{start, refused, steps, finished}
use Rattle.form.specs.step.Standing.{Ok}
use Rattle.form.specs.step.laws.Standing.{ok_start, ok_refused, ok_steps, ok_finished, old_steps, old_finished}
use Rattle.form.specs.declared.step.Reader.{Reader}
use Rattle.reader.specs.standing.Stands.{both, is_valid}
use Rattle.reader.specs.standing.laws.Stands.{is_valid_ok, ok_is_valid, both_true}
use Rattle.reader.specs.state.Words.{words_of, reader_of, stored}
use Rattle.reader.specs.state.Entered.{blank, entered}

pub stored_is : (ws : List ℕ) (r : Reader) → 16 ≤ length ws → stored ws r ≡ words_of r ++ drop 16 ws
unfolding stored
stored_is ws r h = sets_all (words_of r) ws h

pub stored_length : (ws : List ℕ) (r : Reader) → length (stored ws r) ≡ length ws
unfolding stored
stored_length ws r = length-sets ws 0 (words_of r)

-- what is stored last is there
pub stored_again : (ws : List ℕ) (r n : Reader) → 16 ≤ length ws → stored (stored ws r) n ≡ stored ws n
stored_again ws r n h =
    stored_is (stored ws r) n (rw (stored_length ws r) h)
    ∙ ap (λ (t : List ℕ). words_of n ++ drop 16 t) (stored_is ws r h)
    ∙ sym (stored_is ws n h)

pub entered_right : (ws : List ℕ) → both (blank (take 7 (drop 9 ws))) (is_valid (reader_of ws)) ≡ true → entered ws ≡ reader_of ws
unfolding entered
entered_right ws e = rw e

pub entered_wrong : (ws : List ℕ) → both (blank (take 7 (drop 9 ws))) (is_valid (reader_of ws)) ≡ false → entered ws ≡ refused (start false) refused_form
unfolding entered
entered_wrong ws e = rw e

-- a state that its records give, and of a reader that takes no forms of old: so they are whose words are kept
pub record New (r : Reader) : Type 0 where
  pub ok : Ok r
  pub new : r.old ≡ false

-- the words say all but the flag
said : (r : Reader) (t : List ℕ) → r.old ≡ false → reader_of (words_of r ++ t) ≡ r
said r t e = λ i. record {
  old = sym e i;
  stage = r.stage;
  left = r.left;
  word = r.word;
  at = r.at;
  refusal = r.refusal;
  clip = r.clip;
  sites = r.sites;
  triangles = r.triangles;
  hull = r.hull;
}

pub entered_stored : (ws : List ℕ) (r : Reader) → New r → 16 ≤ length ws → entered (stored ws r) ≡ r
unfolding blank
entered_stored ws r o h =
    let e = said r (drop 16 ws) o.new in
    ap entered (stored_is ws r h)
    ∙ entered_right (words_of r ++ drop 16 ws) (both_true _ _ refl (ap is_valid e ∙ ok_is_valid r o.ok))
    ∙ e

-- a state is what its words say, or refused
pub ok_entered : (ws : List ℕ) → Ok (entered ws)
unfolding entered
ok_entered ws = go (blank (take 7 (drop 9 ws))) (is_valid (reader_of ws)) refl
  where
    go : (t u : Bool) → is_valid (reader_of ws) ≡ u → Ok (pick (both t u) (λ _. reader_of ws) (λ _. refused (start false) refused_form))
    go true true e = is_valid_ok (reader_of ws) e
    go true false e = ok_refused refused_form (inl refl) (λ q. absurd (omega arith)) (ok_start false)
    go false u e = ok_refused refused_form (inl refl) (λ q. absurd (omega arith)) (ok_start false)

pub new_entered : (ws : List ℕ) → New (entered ws)
unfolding entered refused
new_entered ws = record { ok = ok_entered ws; new = go (both (blank (take 7 (drop 9 ws))) (is_valid (reader_of ws))) }
  where
    go : (t : Bool) → (pick t (λ _. reader_of ws) (λ _. refused (start false) refused_form)).old ≡ false
    go true = refl
    go false = refl

pub new_start : New (start false)
new_start = record { ok = ok_start false; new = refl }

pub new_steps : (s : List ℕ) (r : Reader) → New r → New (steps r s)
new_steps s r o = record { ok = ok_steps s r o.ok; new = old_steps s r ∙ o.new }

pub new_finished : (r : Reader) → New r → New (finished r)
new_finished r o = record { ok = ok_finished r o.ok; new = old_finished r ∙ o.new }
