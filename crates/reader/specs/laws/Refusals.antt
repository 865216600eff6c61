-- What a beginning that was not refused leaves, and what the end makes of a refused state. What a refused state answers: laws/Answers of reader::answers.
use Rattle.std.specs.Prelude.{◌≡◌, refl, Bool, true, false, List, ℕ, ◌≤◌, ltb, length}
use Rattle.std.proofs.Common.{ap, arith, ltb-false}
use Rattle.base.specs.common.Pick.{pick}
use Rattle.form.specs.step.Reader.{broken, finished}
use Rattle.form.specs.declared.step.Reader.{Reader}
use Rattle.reader.specs.Calls.{beginning, begin_call, AtBegin}
use Rattle.reader.specs.Promise.{ReaderBegins}

pub begun_words : (ws₀ : List ℕ) {ws : List ℕ} → ReaderBegins ws₀ ws 0 → (16 ≤ length ws₀) × (ws ≡ beginning ws₀)
unfolding begin_call
begun_words ws₀ {ws} e = go (ltb (length ws₀) 16) refl e
  where
    go : (t : Bool) → ltb (length ws₀) 16 ≡ t
        → ◌≡◌ {A = AtBegin} (record { number = 0; words = ws }) (pick t (λ _. record { number = 2; words = ws₀ }) (λ _. record { number = 0; words = beginning ws₀ }))
        → (16 ≤ length ws₀) × (ws ≡ beginning ws₀)
    go true p q = absurd (omega (arith, ap (λ (x : AtBegin). x.number) q))
    go false p q = (ltb-false _ _ p, ap (λ (x : AtBegin). x.words) q)

pub finished_broken : (r : Reader) → broken r ≡ true → finished r ≡ r
unfolding finished
finished_broken r e = rw e
