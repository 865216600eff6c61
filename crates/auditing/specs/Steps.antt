-- What the steps to the answer owe each other. Definitions only.
use Rattle.std.specs.Prelude.{◌≡◌, true, List, ℕ, ◌+◌, ◌/◌, ◌<◌, ◌≤◌, Float, length, Result, Ok, Err, IfOk}
use Rattle.base.specs.common.Binary64 as B
use Rattle.base.specs.numbers.Numbers.{EMPTY}
use Rattle.base.specs.declared.refusal.Refusal.{Refusal}
use Rattle.base.specs.refusal.Number.{answer_number}
use Rattle.plane.specs.declared.given.Given.{Given}
use Rattle.plane.specs.declared.boxes.BoundingBox.{BoundingBox}
use Rattle.walks.specs.shared.Cells.{Cells}
use Rattle.arguments.specs.entries.Named.{EntriesNamed}
use Rattle.areas.specs.Promise.{entries_of_all}
use Rattle.auditing.specs.corners.Outside.{site_outside}
use Rattle.auditing.specs.nearer.Nearer.{site_nearer}
use Rattle.auditing.specs.nearer.Steps.{HeldKept, PiecesKept}
use Rattle.auditing.specs.total.Total.{missing_of}
use Rattle.auditing.specs.rules.Rules.{AuditNumber}
use Rattle.auditing.specs.Verdict.{AuditVerdict, verdict_on, audit_kind, audit_site, audit_vertex, audit_other}
use Rattle.auditing.specs.declared.AuditJudgement.{AuditJudgement}

-- the piece of s has a corner that is nearer to another site
pub record NearerNamed (far : Float) (sites : List Float) (starts others : List ℕ) (v : List Float) (off ix : List ℕ) (s : ℕ) : Type 0 where
  pub held : HeldKept sites starts others
  pub pieces : PiecesKept sites v off ix
  pub own : s < length sites / 2
  pub few : length sites / 2 ≤ 65536
  pub nearer : site_nearer far sites starts others v off ix s ≡ true

-- it has a corner outside
pub record OutsideNamed (b : BoundingBox) (v : List Float) (off ix : List ℕ) (s : ℕ) : Type 0 where
  pub cut : Cells off (length ix)
  pub named : EntriesNamed (entries_of_all off ix) (length v / 2)
  pub own : s + 1 < length off
  pub few : length off ≤ 65537
  pub outside : site_outside b v off ix s ≡ true

-- refused by the rules, or the verdict and the missing share
pub record AuditJudged (g : Given) (sites v : List Float) (off ix starts others : List ℕ) (bits : ℕ) (a : Result AuditJudgement Refusal) : Type 0 where
  pub number : AuditNumber g.sound sites v off ix starts others bits (answer_number a)
  pub judged : IfOk a (λ j. (j.verdict ≡ verdict_on g.bounds bits sites starts others v off ix) × (j.missing ≡ missing_of g.bounds v off ix))

-- what of a verdict is told: EMPTY where it is refused
abbrev pub told_of : (AuditVerdict → ℕ) → Result AuditJudgement Refusal → ℕ
told_of f (Ok j) = f j.verdict
told_of f (Err _) = EMPTY

abbrev pub told_missing : Result AuditJudgement Refusal → Float
told_missing (Ok j) = j.missing
told_missing (Err _) = B.zero

-- the numbers of an answer
pub record ToldOf (a : Result AuditJudgement Refusal) (r kind site vertex other : ℕ) (missing : Float) : Type 0 where
  pub number_is : r ≡ answer_number a
  pub kind_is : kind ≡ told_of audit_kind a
  pub site_is : site ≡ told_of audit_site a
  pub vertex_is : vertex ≡ told_of audit_vertex a
  pub other_is : other ≡ told_of audit_other a
  pub missing_is : missing ≡ told_missing a
