-- The two answers are the two cases of `prior_place`, by the test on the first place.
use native.Mathlib.Omega.{arith}
use borrow.Author.Tests.{eq-eqb, ne_eqb}
use borrow.Author.Rules.{rules}
use Rattle.grid.specs.border.ShortForm.{prior_place}
use Rattle.grid.proofs.border.prior_place.Statement.{statement}
use Rattle.grid.proofs.border.prior_place.Tie as tie

returns : tie.Need-returns-then-i-eq0
unfolding prior_place
returns c = (simp (eq-eqb _ _ c.if-i-eq0.true), omega arith)

returns-2 : tie.Need-returns
unfolding prior_place
returns-2 c = (simp (ne_eqb _ _ c.if-i-eq0.false), omega arith)

pub prior_place_spec : {M : Type 1} → statement M
prior_place_spec = tie.close (tie.spec (λ c. search rules) returns (λ c. search rules) returns-2)
