-- `cutting::border::is_directed`: the definition's four tests.
use mathlib.Core.Path.{refl}
use Rattle.cutting.specs.border.Border.{directed}
use Rattle.cutting.proofs.border.is_directed.Statement.{statement}
use Rattle.cutting.proofs.border.is_directed.Tie as tie

returns : tie.Need-returns
unfolding directed
returns c = refl

pub is_directed_spec : {M : Type 1} → statement M
is_directed_spec = tie.close (tie.spec returns)
