-- The two answers are the two cases of `next_place`, by the test on the last place.
use Rattle.mesh.specs.Hull.{next_place}
use native.Mathlib.Omega.{arith}
use borrow.Author.Tests.{eq-eqb, ne_eqb}
use borrow.Author.Rules.{rules}
use Rattle.mesh.proofs.next_place.Statement.{statement}
use Rattle.mesh.proofs.next_place.Tie as tie

returns : tie.Need-returns-then-i-h
unfolding next_place
returns c = (simp (eq-eqb _ _ c.if-i-h.true), omega arith)

returns-2 : tie.Need-returns
unfolding next_place
returns-2 c = (simp (ne_eqb _ _ c.if-i-h.false), omega arith)

pub next_place_spec : {M : Type 1} → statement M
next_place_spec = tie.close (tie.spec (λ c. search rules) returns (λ c. search rules) returns-2)
