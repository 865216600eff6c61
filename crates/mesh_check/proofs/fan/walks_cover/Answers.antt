-- Once the sum passes the number of half-edges it can no longer be that number.
use Rattle.std.proofs.Common.{refl, arith}
use Rattle.mesh.specs.Mesh.{total_to}
use Rattle.mesh.specs.laws.Total.{total_turn, total_over}
use Rattle.mesh_check.proofs.fan.walks_cover.Goals as goal

pub loop-start-init : goal.loop-start-init
unfolding total_to
loop-start-init c = (refl, omega arith)

pub returns-then-halfedges-total : goal.returns-then-halfedges-total
returns-then-halfedges-total c =
    total_over _ _ _ _ (omega arith) (total_turn _ _ _ _ _ c.loop-start.invariant.0 c.walk_length-total.ensures.0) c.if-halfedges-total.true

pub loop-start-preserved : goal.loop-start-preserved
loop-start-preserved c = (total_turn _ _ _ _ _ c.loop-start.invariant.0 c.walk_length-total.ensures.0, omega arith)
