-- Theorem: any two results that a promise allows are equal.
use Rattle.std.specs.Prelude.{List, ◌≡◌, ℕ}
use Rattle.std.proofs.Common.{sym, ap, ◌∙◌}
use Rattle.reader.specs.Calls.{FormLists, AtBegin, AtFeed, AtEnd, AtRead}
use Rattle.reader.specs.Promise.{ReaderBegins, ReaderFeeds, ReaderEnds, ReadsForm}
use Rattle.reader.specs.declared.answers.Answer.{Answer}
use Rattle.reader.specs.declared.answers.Report.{Report}

pub begins_one : (ws : List ℕ) {a b : List ℕ} {r q : ℕ} → ReaderBegins ws a r → ReaderBegins ws b q → (r ≡ q) × (a ≡ b)
begins_one ws e f = let g = e ∙ sym f in (ap (λ (x : AtBegin). x.number) g, ap (λ (x : AtBegin). x.words) g)

pub feeds_one : (ws : List ℕ) (l : FormLists) (s : List ℕ) {v w : List ℕ} {k m : FormLists} {a b : Answer} → ReaderFeeds ws l s v k a → ReaderFeeds ws l s w m b → (a ≡ b) × (v ≡ w) × (k ≡ m)
feeds_one ws l s e f = let g = e ∙ sym f in (ap (λ (x : AtFeed). x.answer) g, ap (λ (x : AtFeed). x.words) g, ap (λ (x : AtFeed). x.form_lists) g)

pub ends_one : (ws : List ℕ) {v w : List ℕ} {a b : Report} → ReaderEnds ws v a → ReaderEnds ws w b → (a ≡ b) × (v ≡ w)
ends_one ws e f = let g = e ∙ sym f in (ap (λ (x : AtEnd). x.report) g, ap (λ (x : AtEnd). x.words) g)

pub reads_one : (l : FormLists) (s : List ℕ) {k m : FormLists} {a b : Report} → ReadsForm l s k a → ReadsForm l s m b → (a ≡ b) × (k ≡ m)
reads_one l s e f = let g = e ∙ sym f in (ap (λ (x : AtRead). x.report) g, ap (λ (x : AtRead). x.form_lists) g)
