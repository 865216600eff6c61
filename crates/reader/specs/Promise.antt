-- The promises of the four calls: the number, the byte, the counts, and every lent slice at exit, whatever came in. What they are worth: Cuttings and Exact.
use Rattle.std.specs.Prelude.{List, ◌≡◌, ℕ}
use Rattle.reader.specs.Calls.{FormLists, begin_call, fed, feed_call, ended, end_call, read_form, read_call}
use Rattle.reader.specs.declared.answers.Answer.{Answer}
use Rattle.reader.specs.declared.answers.Report.{Report}

-- the lent numbers together
abbrev pub answer : ℕ → ℕ → Answer
answer r at = record { number = r; at = at }

abbrev pub report : ℕ → ℕ → ℕ → ℕ → ℕ → ℕ → Report
report r clip n t h at = record { number = r; at = at; clip = clip; sites = n; triangles = t; hull = h }

-- 2
abbrev pub ReaderBegins : List ℕ → List ℕ → ℕ → Type 0
ReaderBegins ws ws' r = record { number = r; words = ws' } ≡ begin_call ws

-- 2, 17, 20
abbrev pub ReaderFeeds : List ℕ → FormLists → List ℕ → List ℕ → FormLists → Answer → Type 0
ReaderFeeds ws l s ws' l' a = fed a ws' l' ≡ feed_call ws l s

-- 2, 17, 20
abbrev pub ReaderEnds : List ℕ → List ℕ → Report → Type 0
ReaderEnds ws ws' t = ended t ws' ≡ end_call ws

-- 2, 17, 20
abbrev pub ReadsForm : FormLists → List ℕ → FormLists → Report → Type 0
ReadsForm l s l' t = read_form t l' ≡ read_call l s
