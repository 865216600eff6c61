-- A refusal clears the slice; where rules 7 to 9 hold the leftmost table is put there.
use Rattle.std.proofs.Common.{refl}
use Rattle.mesh.specs.laws.Verdicts.{fault_numbered}
use Rattle.mesh_check.specs.whole.laws.Steps.{shape_named, outline_shape, outline_hull, outline_whole}
use Rattle.mesh_check.proofs.whole.check_outline.Goals as goal

pub returns-in-Err : goal.returns-in-Err
returns-in-Err c = outline_shape _ _ _ _ _ _ _ c.in-Err.ensures refl _ (fault_numbered _) c.clear.ensures

pub check_hull-requires : goal.check_hull-requires
check_hull-requires c = (
  c.requires.0,
  c.requires.1,
  c.requires.4,
  c.requires.3,
  shape_named _ _ _ _ c.in_default.ensures refl c.requires.0 c.requires.4,
)

pub returns-in-Err-check_hull : goal.returns-in-Err-check_hull
returns-in-Err-check_hull c =
    outline_hull _ _ _ _ _ _ _ c.in_default.ensures refl refl _ c.check_hull.auto.work _ _ c.in-Err-check_hull.ensures.0 refl _ (fault_numbered _) c.clear-in-Err-check_hull.ensures

pub put_leftmost-requires : goal.put_leftmost-requires
put_leftmost-requires c = (
  c.requires.0,
  c.requires.1,
  c.requires.2,
  shape_named _ _ _ _ c.in_default.ensures refl c.requires.0 (rw c.check_hull.auto.work c.requires.4),
)

pub returns : goal.returns
returns c =
    outline_whole _ _ _ _ _ _ _ c.in_default.ensures refl refl _ c.check_hull.auto.work _ _ c.in_default-check_hull.ensures.0 refl _ refl c.requires.0 c.requires.4 c.put_leftmost.ensures
