-- `plane_calls::centroid` meets its contract: the answer taken apart.
use Rattle.plane_calls.specs.laws.Plane.{centroid}
use Rattle.plane_calls.proofs.centroid.Goals as goal

pub returns : goal.returns
returns c = centroid _ c.centroid.ensures
