-- The two answers are the two cases of `lesser`.
use borrow.Author.Tests.{lt-ltb, le-ltb}
use Rattle.flipping.specs.Entries.{lesser}
use Rattle.flipping.proofs.stores.less.Statement.{statement}
use Rattle.flipping.proofs.stores.less.Tie as tie

returns : tie.Need-returns-then-x-m
unfolding lesser
returns c = rw (lt-ltb _ _ c.if-x-m.true)

returns-2 : tie.Need-returns
unfolding lesser
returns-2 c = rw (le-ltb _ _ c.if-x-m.false)

pub less_spec : {M : Type 1} → statement M
less_spec = tie.close (tie.spec returns returns-2)
