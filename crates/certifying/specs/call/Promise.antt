-- What a certificate promises: the number by the rules, the four lent numbers, EMPTY beside a refusal, and the work at exit: as it was after 1 to 6, EMPTY throughout otherwise.
-- Definitions only.
use Rattle.std.specs.Prelude.{◌≡◌, List, ℕ, Float, length, replicate}
use Rattle.base.specs.numbers.Numbers.{EMPTY}
use Rattle.plane.specs.declared.given.Given.{Given}
use Rattle.mesh_check.specs.whole.AtExit.{at_exit}
use Rattle.auditing.specs.Promise.{unless_refused}
use Rattle.certifying.specs.rules.Rules.{CertifyNumber}
use Rattle.certifying.specs.call.Verdict.{certify_on, certify_kind, certify_site, certify_vertex, certify_other}

pub record CertifyAnswer (g : Given) (sites v : List Float) (off ix : List ℕ) (bits : ℕ) (old new : List ℕ) (r kind site vertex other : ℕ) : Type 0 where
  pub number : CertifyNumber g.sound sites v off ix bits (length old) r
  pub kind_is : kind ≡ unless_refused r (certify_kind (certify_on g.bounds bits sites v off ix))
  pub site_is : site ≡ unless_refused r (certify_site (certify_on g.bounds bits sites v off ix))
  pub vertex_is : vertex ≡ unless_refused r (certify_vertex (certify_on g.bounds bits sites v off ix))
  pub other_is : other ≡ unless_refused r (certify_other (certify_on g.bounds bits sites v off ix))
  pub work_is : new ≡ at_exit EMPTY (replicate (length old) EMPTY) old r
