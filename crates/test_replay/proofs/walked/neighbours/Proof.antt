-- `test_replay::walked::neighbours` meets its contract: the call's answer, and what is told of it.
use borrow.Author.Rules.{rules}
use Rattle.test_replay.specs.laws.Replayed.{heard}
use Rattle.test_replay.proofs.walked.neighbours.Statement.{statement}
use Rattle.test_replay.proofs.walked.neighbours.Tie as tie

returns : tie.Need-returns
returns c = heard _ c.voronoi_neighbours-number.ensures c.list.ensures

pub neighbours_spec : {M : Type 1} → statement M
neighbours_spec =
    tie.close
    (tie.spec (λ c. search rules) (λ c κs. search rules) (λ c. search rules) (λ c κs. search rules)
    (λ c. search rules) returns)
