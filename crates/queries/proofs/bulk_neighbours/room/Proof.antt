-- `queries::bulk_neighbours::room` meets its contract: each test settles it, or hands on to the next.
use borrow.Author.Rules.{rules}
use Rattle.queries.specs.bulk_neighbours.laws.Answers.{last_test}
use Rattle.queries.proofs.bulk_neighbours.room.Statement.{statement}
use Rattle.queries.proofs.bulk_neighbours.room.Tie as tie

returns-4 : tie.Need-returns
returns-4 c = last_test _ _ _ _ _ _ c.if-work-sites.false c.if-starts-sites.false c.if-out-hull.false

pub room_spec : {M : Type 1} → statement M
room_spec = tie.close (tie.spec (λ c. search rules) (λ c. search rules) (λ c. search rules) returns-4)
