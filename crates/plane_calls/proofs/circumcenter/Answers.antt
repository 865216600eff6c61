-- `plane_calls::circumcenter` meets its contract: the answer taken apart.
use Rattle.plane_calls.specs.laws.Plane.{circumcenter}
use Rattle.plane_calls.proofs.circumcenter.Goals as goal

pub returns : goal.returns
returns c = circumcenter _ _ _ c.circumcenter.ensures
