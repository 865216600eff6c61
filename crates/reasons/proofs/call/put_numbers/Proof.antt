-- What is written are the record's own numbers.
use mathlib.Core.Path.{refl}
use Rattle.reasons.proofs.call.put_numbers.Statement.{statement}
use Rattle.reasons.proofs.call.put_numbers.Tie as tie

returns : tie.Need-returns
returns c = refl

pub put_numbers_spec : {M : Type 1} → statement M
put_numbers_spec = tie.close (tie.spec returns)
