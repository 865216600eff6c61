-- `mend::boxes::box_kind` meets its contract.
use mathlib.Core.Path.{refl}
use Rattle.mend.proofs.boxes.box_kind.Statement.{statement}
use Rattle.mend.proofs.boxes.box_kind.Tie as tie

pub box_kind_spec : {M : Type 1} → statement M
box_kind_spec = tie.close (tie.spec (λ c. refl))
