-- `test_replay::words::held::points` meets its contract.
use borrow.Author.Rules.{rules}
use mathlib.Core.Path.{refl}
use Rattle.test_replay.specs.words.laws.Held.{after_of_lem}
use Rattle.test_replay.proofs.words.held.points.Statement.{statement}
use Rattle.test_replay.proofs.words.held.points.Tie as tie

pub points_spec : {M : Type 1} → statement M
points_spec = tie.close (tie.spec (λ c κs. search rules) (λ c κs. search rules) (λ c. after_of_lem c.after.ensures c.table.ensures refl))
