-- What an audit promises: the number by the rules, and the five lent numbers; beside a refusal EMPTY and 0. Definitions only.
use Rattle.std.specs.Prelude.{◌≡◌, List, ℕ, eqb, Float}
use Rattle.base.specs.common.Binary64 as B
use Rattle.base.specs.common.Pick.{pick}
use Rattle.base.specs.numbers.Numbers.{EMPTY}
use Rattle.plane.specs.declared.given.Given.{Given}
use Rattle.auditing.specs.total.Total.{missing_of}
use Rattle.auditing.specs.rules.Rules.{AuditNumber}
use Rattle.auditing.specs.Verdict.{verdict_on, audit_kind, audit_site, audit_vertex, audit_other}

-- a number beside r
unfoldable pub unless_refused : ℕ → ℕ → ℕ
unless_refused r x = pick (eqb r 0) (λ _. x) (λ _. EMPTY)

unfoldable pub share_unless_refused : ℕ → Float → Float
share_unless_refused r x = pick (eqb r 0) (λ _. x) (λ _. B.zero)

pub record AuditAnswer (g : Given) (sites v : List Float) (off ix starts others : List ℕ) (bits r kind site vertex other : ℕ) (missing : Float) : Type 0 where
  pub number : AuditNumber g.sound sites v off ix starts others bits r
  pub kind_is : kind ≡ unless_refused r (audit_kind (verdict_on g.bounds bits sites starts others v off ix))
  pub site_is : site ≡ unless_refused r (audit_site (verdict_on g.bounds bits sites starts others v off ix))
  pub vertex_is : vertex ≡ unless_refused r (audit_vertex (verdict_on g.bounds bits sites starts others v off ix))
  pub other_is : other ≡ unless_refused r (audit_other (verdict_on g.bounds bits sites starts others v off ix))
  pub missing_is : missing ≡ share_unless_refused r (missing_of g.bounds v off ix)
