-- `test_replay::words::float` meets its contract.
use borrow.Author.Rules.{rules}
use mathlib.Core.Path.{ap, ◌∙◌}
use Rattle.test_replay.specs.words.Words.{float_of}
use Rattle.test_replay.proofs.words.float.Statement.{statement}
use Rattle.test_replay.proofs.words.float.Tie as tie

returns : tie.Need-returns
returns c = c.float_of.ensures ∙ ap float_of c.pattern.ensures

pub float_spec : {M : Type 1} → statement M
float_spec = tie.close (tie.spec (λ c κs. search rules) (λ c κs. search rules) returns)
