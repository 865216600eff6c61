-- The promises of the calls that read a form: the number, the byte, the counts, and every lent slice at exit. What they are: Calls of crate reader; what they
-- are worth: Cuttings and Exact there.
use Rattle.std.specs.Prelude.{List, ℕ}
use Rattle.reader.specs.Calls.{FormLists}
use Rattle.reader.specs.Promise.{ReaderBegins, ReaderFeeds, ReaderEnds, ReadsForm}
use Rattle.reader.specs.declared.answers.Answer.{Answer}
use Rattle.reader.specs.declared.answers.Report.{Report}

-- 2
abbrev pub ReaderBegin : List ℕ → List ℕ → ℕ → Type 0
ReaderBegin = ReaderBegins

-- 2, 17, 20
abbrev pub ReaderFeed : List ℕ → FormLists → List ℕ → List ℕ → FormLists → Answer → Type 0
ReaderFeed = ReaderFeeds

-- 2, 17, 20
abbrev pub ReaderEnd : List ℕ → List ℕ → Report → Type 0
ReaderEnd = ReaderEnds

-- 2, 17, 20
abbrev pub ReadForm : FormLists → List ℕ → FormLists → Report → Type 0
ReadForm = ReadsForm
