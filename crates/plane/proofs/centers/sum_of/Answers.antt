-- `plane::centers::sum_of` meets its contract: each point is added.
use Rattle.std.proofs.Common.{refl, ap, ◌∙◌, arith}
use Rattle.plane.specs.centers.Centroid.{point_sum}
use Rattle.plane.specs.centers.laws.Centroid.{sum_more}
use Rattle.plane.proofs.centers.sum_of.Goals as goal

pub loop-i-init : goal.loop-i-init
unfolding point_sum
loop-i-init c = refl

pub loop-i-preserved : goal.loop-i-preserved
loop-i-preserved c = sum_more _ c.loop-i.i c.loop-i.invariant

pub returns : goal.returns
returns c = c.loop-i.invariant ∙ ap (point_sum c.args.points.now) (omega arith)
