-- The three answers are the cases of `less_of`, by its two tests.
use borrow.Author.Tests.{eq-eqb, ne_eqb}
use Rattle.mesh_check.specs.fan.Counts.{less_of}
use borrow.Author.Rules.{rules}
use Rattle.mesh_check.proofs.fan.less.Statement.{statement}
use Rattle.mesh_check.proofs.fan.less.Tie as tie

returns : tie.Need-returns-then-m-eq0
unfolding less_of
returns c = simp (eq-eqb _ _ c.if-m-eq0.true)

returns-2 : tie.Need-returns-then-m-eq-EMPTY
unfolding less_of
returns-2 c = simp (ne_eqb _ _ c.if-m-eq0.false, eq-eqb _ _ c.if-m-eq-EMPTY.true)

returns-3 : tie.Need-returns
unfolding less_of
returns-3 c = simp (ne_eqb _ _ c.if-m-eq0.false, ne_eqb _ _ c.if-m-eq-EMPTY.false)

pub less_spec : {M : Type 1} → statement M
less_spec = tie.close (tie.spec returns returns-2 (λ c. search rules) returns-3)
