-- `ring_area::limits::less` meets its contract: a borrow says it.
use borrow.Author.Rules.{rules}
use Rattle.ring_area.specs.limits.laws.Overs.{less_is}
use Rattle.ring_area.proofs.limits.less.Statement.{statement}
use Rattle.ring_area.proofs.limits.less.Tie as tie

returns : tie.Need-returns
returns c = less_is c.difference.ensures

pub less_spec : {M : Type 1} → statement M
less_spec = tie.close (tie.spec (λ c. search rules) (λ c κs. search rules) returns)
