-- `test_replay::words::held::table` meets its contract.
use borrow.Author.Rules.{rules}
use Rattle.test_replay.proofs.words.held.table.Statement.{statement}
use Rattle.test_replay.proofs.words.held.table.Tie as tie

pub table_spec : {M : Type 1} → statement M
table_spec = tie.close (tie.spec (λ c κs. search rules) (λ c. c.after.ensures))
