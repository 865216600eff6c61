-- One comparison decides.
use Rattle.walks.specs.paths.Path.{nearer_of}
use Rattle.walks.proofs.paths.nearer.Statement.{statement}
use Rattle.walks.proofs.paths.nearer.Tie as tie

returns : tie.Need-returns-then-dist-best
unfolding nearer_of
returns c = rw c.if-dist-best.true

returns-2 : tie.Need-returns
unfolding nearer_of
returns-2 c = rw c.if-dist-best.false

pub nearer_spec : {M : Type 1} → statement M
nearer_spec = tie.close (tie.spec returns returns-2)
