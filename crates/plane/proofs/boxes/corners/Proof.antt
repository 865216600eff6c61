-- `plane::boxes::corners`: the array is the definition's list.
use Rattle.plane.specs.boxes.Box.{corners_of}
use Rattle.plane.proofs.boxes.corners.Statement.{statement}
use Rattle.plane.proofs.boxes.corners.Tie as tie

pub corners_spec : {M : Type 1} → statement M
unfolding corners_of
corners_spec = tie.close (tie.spec (λ c. cc))
