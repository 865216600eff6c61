-- `auditing::rules::held` meets its contract: where there are no lists there is nothing.
use Rattle.auditing.specs.rules.laws.Asking.{none_used}
use Rattle.auditing.specs.nearer.laws.Pieces.{not_none, list_of}
use borrow.Author.Rules.{rules}
use Rattle.auditing.proofs.rules.held.Statement.{statement}
use Rattle.auditing.proofs.rules.held.Tie as tie

returns : tie.Need-returns-then-no_lists
returns c = let s = c in none_used s.args.starts.now s.args.others.now (list_of c.no_lists.ensures c.if-no_lists.true)

used-requires : tie.Need-used-requires
used-requires c κs = let s = c in not_none s.args.starts.now s.args.others.now c.no_lists.ensures c.if-no_lists.false s.requires

pub held_spec : {M : Type 1} → statement M
held_spec = tie.close (tie.spec (λ c κs. search rules) returns used-requires (λ c. search rules))
