-- `test_replay::words::held::end` meets its contract.
use borrow.Author.Rules.{rules}
use mathlib.Core.Path.{refl}
use Rattle.test_replay.specs.words.laws.Held.{after_of_lem}
use Rattle.test_replay.proofs.words.held.end.Statement.{statement}
use Rattle.test_replay.proofs.words.held.end.Tie as tie

pub end_spec : {M : Type 1} → statement M
end_spec = tie.close (tie.spec (λ c κs. search rules) (λ c κs. search rules) (λ c. after_of_lem c.after.ensures c.starts.ensures refl))
