-- At the first half-edge nothing is done yet.
use Rattle.mesh_check.specs.border.laws.Loops.{unmarking_start}
use Rattle.mesh_check.proofs.border.unmark.Goals as goal

pub loop-t-init : goal.loop-t-init
loop-t-init c = unmarking_start _ _ _ _
