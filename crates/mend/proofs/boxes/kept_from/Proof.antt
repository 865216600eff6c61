-- `mend::boxes::kept_from` meets its contract: by the kind.
use native.Mathlib.Omega.{arith}
use borrow.Author.Tests.{eq-eqb, ne_eqb}
use Rattle.mend.specs.boxes.Option.{kept_from}
use Rattle.mend.proofs.boxes.kept_from.Statement.{statement}
use Rattle.mend.proofs.boxes.kept_from.Tie as tie

returns : tie.Need-returns-then-clip-eq-UNCLIPPED
unfolding kept_from
returns c = (rw (eq-eqb c.args.clip 6 c.if-clip-eq-UNCLIPPED.true), omega arith)

returns-2 : tie.Need-returns
unfolding kept_from
returns-2 c = (rw (ne_eqb c.args.clip 6 c.if-clip-eq-UNCLIPPED.false), omega arith)

pub kept_from_spec : {M : Type 1} → statement M
kept_from_spec = tie.close (tie.spec returns returns-2)
