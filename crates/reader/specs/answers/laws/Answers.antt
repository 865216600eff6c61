-- What a state answers by whether a refusal stands; what a refused state is, and that its report tells what its answer tells.
use Rattle.std.specs.Prelude.{◌≡◌, refl, Bool, true, false, ◌≢◌}
use Rattle.std.proofs.Common.{sym, ap, ◌∙◌}
use Rattle.form.specs.step.Reader.{broken}
use Rattle.form.specs.declared.step.Reader.{Reader}
use Rattle.reader.specs.answers.Answers.{no_refusal, refused_at, answer_of, sound_report, refused_report, report_of}
use Rattle.reader.specs.declared.answers.Answer.{Answer}
use Rattle.reader.specs.declared.answers.Report.{Report}

pub answer_none : (r : Reader) → broken r ≡ false → answer_of r ≡ no_refusal
unfolding answer_of
answer_none r e = rw e

pub answer_refused : (r : Reader) → broken r ≡ true → answer_of r ≡ refused_at r
unfolding answer_of
answer_refused r e = rw e

pub report_none : (r : Reader) → broken r ≡ false → report_of r ≡ sound_report r
unfolding report_of
report_none r e = rw e

pub report_refused : (r : Reader) → broken r ≡ true → report_of r ≡ refused_report r
unfolding report_of
report_refused r e = rw e

pub refused_broken : (r : Reader) → (answer_of r).number ≢ 0 → broken r ≡ true
refused_broken r d = go (broken r) refl
  where
    go : (t : Bool) → broken r ≡ t → t ≡ true
    go true e = refl
    go false e = absurd (d (ap (λ (a : Answer). a.number) (answer_none r e)))

pub report_answer : (r : Reader) → broken r ≡ true → ((report_of r).number ≡ (answer_of r).number) × ((report_of r).at ≡ (answer_of r).at)
report_answer r e =
    let p = report_refused r e in
    let q = sym (answer_refused r e) in
    (ap (λ (a : Report). a.number) p ∙ ap (λ (a : Answer). a.number) q, ap (λ (a : Report). a.at) p ∙ ap (λ (a : Answer). a.at) q)

pub report_broken : (r : Reader) → (report_of r).number ≢ 0 → broken r ≡ true
report_broken r d = go (broken r) refl
  where
    go : (t : Bool) → broken r ≡ t → t ≡ true
    go true e = refl
    go false e = absurd (d (ap (λ (a : Report). a.number) (report_none r e)))
