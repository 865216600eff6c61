-- `plane::boxes::new`: each edge is the definition's.
use Rattle.plane.specs.boxes.Box.{made_of}
use Rattle.plane.proofs.boxes.new.Statement.{statement}
use Rattle.plane.proofs.boxes.new.Tie as tie

pub new_spec : {M : Type 1} → statement M
unfolding made_of
new_spec = tie.close (tie.spec (λ c. cc))
