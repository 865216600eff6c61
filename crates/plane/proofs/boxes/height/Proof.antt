-- `plane::boxes::height` is the definition's difference.
use Rattle.plane.specs.boxes.Box.{height_of}
use Rattle.plane.proofs.boxes.height.Statement.{statement}
use Rattle.plane.proofs.boxes.height.Tie as tie

pub height_spec : {M : Type 1} → statement M
unfolding height_of
height_spec = tie.close (tie.spec (λ c. cc))
