-- `plane::boxes::box_ok`: center, size and computed edges are tested as rule 3 says.
use Rattle.plane.specs.boxes.Rules.{ok_box}
use Rattle.plane.proofs.boxes.box_ok.Statement.{statement}
use Rattle.plane.proofs.boxes.box_ok.Tie as tie

pub box_ok_spec : {M : Type 1} → statement M
unfolding ok_box
box_ok_spec = tie.close (tie.spec (λ c κs. tt) (λ c κs. tt) (λ c. cc))
