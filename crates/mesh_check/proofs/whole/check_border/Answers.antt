-- Rule 10 is tried where rule 9 finds nothing; a refusal by rule 9 is one by both.
use Rattle.std.proofs.Common.{refl, lt_of_lt_of_le}
use Rattle.std.proofs.lemmas.Result.{err_from_is_err_and}
use Rattle.mesh.specs.laws.Verdicts.{fault_numbered}
use Rattle.mesh_check.specs.whole.laws.Steps.{named, paired, border_hull}
use Rattle.mesh_check.proofs.whole.check_border.Goals as goal

pub check_hull-requires : goal.check_hull-requires
check_hull-requires c =
    let s = c in
    (s.requires.0, s.requires.1, s.requires.4, s.requires.3, λ k l. lt_of_lt_of_le (named _ _ _ s.requires.0 s.requires.5 s.requires.6 k l) s.requires.4)

pub returns-in_err-check_hull : goal.returns-in_err-check_hull
returns-in_err-check_hull c =
    let p = err_from_is_err_and c.from_residual.result c.from_residual.ensures.1 in
    rw (p.1, p.2) (border_hull _ _ _ _ _ _ _ c.in_err-check_hull.ensures.0 refl _ (fault_numbered _))

pub check_fan-s-requires : goal.check_fan-s-requires
check_fan-s-requires c = (
  c.requires.1,
  paired _ _ c.requires.0 c.requires.1 c.requires.2 c.requires.6,
  rw c.check_hull.auto.work c.requires.4,
  named _ _ _ c.requires.0 c.requires.5 c.requires.6,
  c.requires.5,
)
