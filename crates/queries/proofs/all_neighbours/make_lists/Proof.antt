-- `queries::all_neighbours::make_lists` meets its contract: the lists are written, and what is behind them is cleared.
use borrow.Author.Rules.{rules}
use Rattle.queries.specs.all_neighbours.laws.Writes.{made_lists}
use Rattle.queries.proofs.all_neighbours.make_lists.Statement.{statement}
use Rattle.queries.proofs.all_neighbours.make_lists.Tie as tie

returns : tie.Need-returns
returns c =
    let first = c in
    let written = first in
    let known = written in
    let s = known in
    made_lists _ _ s.args.starts.now s.args.out.now s.requires.one_more s.requires.room written.write_lists-n.ensures
    first.fill_from.ensures c.fill_from-2.ensures

pub make_lists_spec : {M : Type 1} → statement M
make_lists_spec =
    tie.close
    (tie.spec (λ c κs. search rules) (λ c. search rules) (λ c κs. search rules) (λ c κs. search rules) (λ c. search rules) (λ c. search rules) returns)
