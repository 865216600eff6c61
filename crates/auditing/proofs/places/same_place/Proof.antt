-- `auditing::places::same_place` meets its contract.
use mathlib.Core.Path.{refl}
use Rattle.auditing.specs.places.Places.{same_of}
use Rattle.auditing.proofs.places.same_place.Statement.{statement}
use Rattle.auditing.proofs.places.same_place.Tie as tie

returns : tie.Need-returns
unfolding same_of
returns c = refl

pub same_place_spec : {M : Type 1} → statement M
same_place_spec = tie.close (tie.spec returns)
