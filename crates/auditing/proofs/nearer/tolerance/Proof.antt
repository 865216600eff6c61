-- `auditing::nearer::tolerance` meets its contract: the pattern of a power of two.
use Rattle.auditing.specs.nearer.laws.Pieces.{tolerance_number}
use Rattle.auditing.specs.nearer.Nearer.{tolerance_of}
use mathlib.Core.Path.{refl}
use borrow.Author.Rules.{rules}
use Rattle.auditing.proofs.nearer.tolerance.Statement.{statement}
use Rattle.auditing.proofs.nearer.tolerance.Tie as tie

float_from_bits-result : tie.Need-float_from_bits-result
float_from_bits-result c = tolerance_number c.args.bits c.requires

returns : tie.Need-returns
unfolding tolerance_of
returns c = refl

pub tolerance_spec : {M : Type 1} → statement M
tolerance_spec = tie.close (tie.spec (λ c. search rules) (λ c. search rules) float_from_bits-result returns)
