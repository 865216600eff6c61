-- `plane::boxes::width` is the definition's difference.
use Rattle.plane.specs.boxes.Box.{width_of}
use Rattle.plane.proofs.boxes.width.Statement.{statement}
use Rattle.plane.proofs.boxes.width.Tie as tie

pub width_spec : {M : Type 1} → statement M
unfolding width_of
width_spec = tie.close (tie.spec (λ c. cc))
