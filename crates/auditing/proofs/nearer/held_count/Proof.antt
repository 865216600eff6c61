-- `auditing::nearer::held_count` meets its contract.
use Rattle.auditing.specs.nearer.laws.Pieces.{count_all, count_listed}
use Rattle.auditing.proofs.nearer.held_count.Statement.{statement}
use Rattle.auditing.proofs.nearer.held_count.Tie as tie

returns : tie.Need-returns-then-all
returns c = let s = c in count_all s.args.all s.args.part.now s.args.count c.if-all.true

returns-2 : tie.Need-returns
returns-2 c = let s = c in count_listed s.args.all s.args.part.now s.args.count c.if-all.false

pub held_count_spec : {M : Type 1} → statement M
held_count_spec = tie.close (tie.spec returns returns-2)
