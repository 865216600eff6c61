-- `plane_calls::corners` meets its contract: accepted, the corners and then zeros.
use borrow.Author.Tests.{not-false}
use Rattle.plane_calls.specs.laws.Plane.{put}
use Rattle.plane_calls.proofs.corners.Goals as goal

pub returns : goal.returns
returns c = put _ _ c.if-out-lt8.false (not-false _ c.if-not-given.false) c.put_corners.ensures c.fill_from.ensures
