-- `test_replay::words::held::after_list` meets its contract.
use borrow.Author.Rules.{rules}
use Rattle.test_replay.specs.words.Held.{after_list_of}
use Rattle.test_replay.specs.words.laws.Held.{after_of_lem}
use Rattle.test_replay.proofs.words.held.after_list.Statement.{statement}
use Rattle.test_replay.proofs.words.held.after_list.Tie as tie

returns : tie.Need-returns
unfolding after_list_of
returns c = after_of_lem c.after-2.ensures c.after.ensures c.index.ensures.0

pub after_list_spec : {M : Type 1} → statement M
after_list_spec = tie.close (tie.spec (λ c κs. search rules) (λ c κs. search rules) (λ c κs. search rules) returns)
