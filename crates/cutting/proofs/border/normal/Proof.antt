-- `cutting::border::normal`: the definition's differences.
use mathlib.Core.Path.{refl}
use Rattle.cutting.specs.border.Border.{normal_of}
use Rattle.cutting.proofs.border.normal.Statement.{statement}
use Rattle.cutting.proofs.border.normal.Tie as tie

returns : tie.Need-returns
unfolding normal_of
returns c = refl

pub normal_spec : {M : Type 1} → statement M
normal_spec = tie.close (tie.spec returns)
