-- `auditing::nearer::no_lists` meets its contract.
use mathlib.Core.Path.{refl}
use Rattle.auditing.specs.nearer.Nearer.{no_lists}
use Rattle.auditing.proofs.nearer.no_lists.Statement.{statement}
use Rattle.auditing.proofs.nearer.no_lists.Tie as tie

returns : tie.Need-returns
unfolding no_lists
returns c = refl

pub no_lists_spec : {M : Type 1} → statement M
no_lists_spec = tie.close (tie.spec returns)
