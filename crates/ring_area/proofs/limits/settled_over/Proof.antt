-- `ring_area::limits::settled_over` meets its contract: the carries leave both sums as they are.
use borrow.Author.Rules.{rules}
use Rattle.ring_area.specs.limits.laws.Overs.{carried_long, long_self, carried_over}
use Rattle.ring_area.proofs.limits.settled_over.Statement.{statement}
use Rattle.ring_area.proofs.limits.settled_over.Tie as tie

over-requires : tie.Need-over-requires
over-requires c κs =
    let second = c in
    let first = second in
    let s = first in
    (long_self (carried_long s.requires.0 first.carry.ensures), long_self (carried_long s.requires.1 second.carry-2.ensures))

returns : tie.Need-returns
returns c =
    let second = c in
    let first = second in
    let s = first in
    carried_over s.requires.0 s.requires.1 first.carry.ensures second.carry-2.ensures c.over.ensures

pub settled_over_spec : {M : Type 1} → statement M
settled_over_spec =
    tie.close
    (tie.spec (λ c κs. search rules) (λ c κs. search rules) over-requires (λ c. search rules) (λ c. search rules) returns)
