-- `test_replay::words::held::starts` meets its contract.
use mathlib.Core.Path.{ap}
use Prim.Native.Nat.{◌*◌}
use borrow.Author.Rules.{rules}
use Rattle.test_replay.specs.words.laws.Held.{after_of_lem}
use Rattle.test_replay.proofs.words.held.starts.Statement.{statement}
use Rattle.test_replay.proofs.words.held.starts.Tie as tie

returns : tie.Need-returns
returns c = after_of_lem c.after.ensures c.points.ensures (ap (λ x. 4 * x) c.index.ensures.0)

pub starts_spec : {M : Type 1} → statement M
starts_spec =
    tie.close
    (tie.spec (λ c κs. search rules) (λ c κs. search rules) (λ c. search rules) (λ c κs. search rules) returns)
