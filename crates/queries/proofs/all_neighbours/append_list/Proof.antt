-- `queries::all_neighbours::append_list` meets its contract: the list fits what is left of the slice.
use native.Mathlib.Omega.{arith}
use borrow.Author.Rules.{rules}
use Rattle.queries.specs.all_neighbours.laws.Writes.{appended}
use Rattle.queries.proofs.all_neighbours.append_list.Statement.{statement}
use Rattle.queries.proofs.all_neighbours.append_list.Tie as tie

abbrev Begin : tie.After-list_from-w → tie.Start
Begin c = c.before.before.before.before.before.before.before.before.before

add-result : tie.Need-overflow_add-result
add-result c =
    let f = c in
    let s = Begin f.before.before.before in
    let e = (appended _ s.args.out.now s.args.n s.requires.3 f.list_from-w.ensures).end in
    omega (arith, e, s.requires.4)

returns : tie.Need-returns
returns c =
    let f = c in
    let s = Begin f.before.before.before in
    appended _ s.args.out.now s.args.n s.requires.3 f.list_from-w.ensures

pub append_list_spec : {M : Type 1} → statement M
append_list_spec =
    tie.close
    (tie.spec (λ c. search rules) (λ c. search rules) (λ c. search rules) (λ c. search rules) (λ c. search rules) (λ c. search rules)
    (λ c. search rules) (λ c κs. search rules) add-result (λ c. search rules) returns)
