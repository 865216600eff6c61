-- Past the list's end it is `EMPTY`, else the entry, whatever stands for none.
use mathlib.Core.Path.{sym}
use lib.ListN.{get_or-eq_default}
use Rattle.base.specs.numbers.Numbers.{EMPTY}
use Rattle.mending.specs.changes.laws.Listing.{entry_any}
use borrow.Author.Rules.{rules}
use Rattle.mending.proofs.changes.entry.Statement.{statement}
use Rattle.mending.proofs.changes.entry.Tie as tie

returns : tie.Need-returns-then-list-i
returns c = sym (get_or-eq_default c.args.list.now EMPTY c.if-list-i.true)

returns-2 : tie.Need-returns
returns-2 c = entry_any c.args.list.now c.args.i c.if-list-i.false

pub entry_spec : {M : Type 1} → statement M
entry_spec =
    tie.close
    (tie.spec returns (λ c. search rules) (λ c. search rules) returns-2)
