-- What the calls on a form that arrives in parts answer, and what they leave in the state and the lists. What a state answers: Answers of reader::answers.
-- Definitions only.
use Rattle.std.specs.Prelude.{Bool, false, List, ℕ, ltb, leb, Float, length, replicate}
use Rattle.base.specs.common.Pick.{pick}
use Rattle.base.specs.numbers.Numbers.{refused_room}
use Rattle.form.specs.Limits.{most_hull, most_coordinates, most_links}
use Rattle.form.specs.step.Reader.{Reading, reading, start, finished, takes}
use Rattle.form.specs.declared.step.Reader.{Reader}
use Rattle.reader.specs.state.Words.{stored}
use Rattle.reader.specs.state.Entered.{entered}
use Rattle.reader.specs.answers.Answers.{answer_of, report_of, no_room, no_report}
use Rattle.reader.specs.declared.answers.Answer.{Answer}
use Rattle.reader.specs.declared.answers.Report.{Report}

-- the lent lists
pub record FormLists : Type 0 where
  pub bounds : List Float
  pub sites : List Float
  pub triangles : List ℕ
  pub halfedges : List ℕ
  pub hull : List ℕ

abbrev pub form_lists : List Float → List Float → List ℕ → List ℕ → List ℕ → FormLists
form_lists bs ss ts es hs = record { bounds = bs; sites = ss; triangles = ts; halfedges = es; hull = hs }

abbrev pub reading_of : Reader → FormLists → Reading
reading_of r l = reading r l.bounds l.sites l.triangles l.halfedges l.hull

abbrev pub lists_of : Reading → FormLists
lists_of d = form_lists d.bounds d.sites d.triangles d.halfedges d.hull

-- each has the room of the largest form
unfoldable pub roomy : FormLists → Bool
roomy l =
    pick (ltb (length l.bounds) 4) (λ _. false)
    (λ _. pick (ltb (length l.sites) most_coordinates) (λ _. false)
    (λ _. pick (ltb (length l.triangles) most_links) (λ _. false)
    (λ _. pick (ltb (length l.halfedges) most_links) (λ _. false) (λ _. leb most_hull (length l.hull)))))

-- ---- begin

-- the number, and the words of the state
pub record AtBegin : Type 0 where
  pub number : ℕ
  pub words : List ℕ

abbrev pub beginning : List ℕ → List ℕ
beginning ws = stored (replicate (length ws) 0) (start false)

unfoldable pub begin_call : List ℕ → AtBegin
begin_call ws =
    pick (ltb (length ws) 16) (λ _. record { number = refused_room; words = ws }) (λ _. record { number = 0; words = beginning ws })

-- ---- feed

pub record AtFeed : Type 0 where
  pub answer : Answer
  pub words : List ℕ
  pub form_lists : FormLists

abbrev pub fed : Answer → List ℕ → FormLists → AtFeed
fed a ws l = record { answer = a; words = ws; form_lists = l }

abbrev pub fed_by : List ℕ → Reading → AtFeed
fed_by ws d = fed (answer_of d.reader) (stored ws d.reader) (lists_of d)

unfoldable pub feed_call : List ℕ → FormLists → List ℕ → AtFeed
feed_call ws l s =
    pick (ltb (length ws) 16) (λ _. fed no_room ws l)
    (λ _. pick (roomy l) (λ _. fed_by ws (takes (reading_of (entered ws) l) s)) (λ _. fed no_room ws l))

-- ---- end

pub record AtEnd : Type 0 where
  pub report : Report
  pub words : List ℕ

abbrev pub ended : Report → List ℕ → AtEnd
ended a ws = record { report = a; words = ws }

abbrev pub ended_by : List ℕ → AtEnd
ended_by ws = ended (report_of (finished (entered ws))) (stored ws (finished (entered ws)))

unfoldable pub end_call : List ℕ → AtEnd
end_call ws = pick (ltb (length ws) 16) (λ _. ended no_report ws) (λ _. ended_by ws)

-- ---- the whole form

pub record AtRead : Type 0 where
  pub report : Report
  pub form_lists : FormLists

abbrev pub read_form : Report → FormLists → AtRead
read_form a l = record { report = a; form_lists = l }

abbrev pub read_by : Reading → AtRead
read_by d = read_form (report_of (finished d.reader)) (lists_of d)

unfoldable pub read_call : FormLists → List ℕ → AtRead
read_call l s = pick (roomy l) (λ _. read_by (takes (reading_of (start false) l) s)) (λ _. read_form no_report l)
