-- `auditing::rules::lists_ok` meets its contract.
use Rattle.auditing.specs.rules.laws.Asking.{lists_none, lists_cut}
use borrow.Author.Rules.{rules}
use Rattle.auditing.proofs.rules.lists_ok.Statement.{statement}
use Rattle.auditing.proofs.rules.lists_ok.Tie as tie

returns : tie.Need-returns-then-no_lists
returns c = lists_none _ c.no_lists.ensures c.if-no_lists.true

returns-2 : tie.Need-returns
returns-2 c =
    let s = c in
    lists_cut s.args.starts.now s.args.others.now s.args.count c.cells_ok.result c.no_lists.ensures c.if-no_lists.false c.cells_ok.ensures

pub lists_ok_spec : {M : Type 1} → statement M
lists_ok_spec = tie.close (tie.spec (λ c κs. search rules) returns (λ c κs. search rules) returns-2)
