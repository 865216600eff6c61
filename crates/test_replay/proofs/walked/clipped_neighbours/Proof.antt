-- `test_replay::walked::clipped_neighbours` meets its contract: the call's answer, and what is told of it.
use mathlib.Core.Bool.{not}
use mathlib.Core.Path.{ap}
use borrow.Author.Rules.{rules}
use Rattle.test_replay.specs.laws.Replayed.{heard, where_asked, where_passed}
use Rattle.test_replay.proofs.walked.clipped_neighbours.Statement.{statement}
use Rattle.test_replay.proofs.walked.clipped_neighbours.Tie as tie

returns : tie.Need-returns-then-not-built
returns c = where_passed _ (ap not c.if-not-built.true)

returns-2 : tie.Need-returns
returns-2 c =
    let n = c in
    where_asked _ (ap not n.if-not-built.false) (heard _ n.voronoi_clipped_neighbours-number.ensures c.list.ensures)

pub clipped_neighbours_spec : {M : Type 1} → statement M
clipped_neighbours_spec =
    tie.close
    (tie.spec returns (λ c. search rules) (λ c κs. search rules) (λ c. search rules) (λ c κs. search rules)
    (λ c. search rules) returns-2)
