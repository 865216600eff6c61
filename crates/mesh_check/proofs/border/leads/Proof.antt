-- The two answers are the cases of `leads_of`, by the test whether m is a place.
use borrow.Author.Tests.{lt-ltb, le-ltb}
use Rattle.mesh_check.specs.border.Marks.{leads_of}
use borrow.Author.Rules.{rules}
use Rattle.mesh_check.proofs.border.leads.Statement.{statement}
use Rattle.mesh_check.proofs.border.leads.Tie as tie

returns : tie.Need-returns-then-hull-m
unfolding leads_of
returns c = simp (le-ltb _ _ c.if-hull-m.true)

returns-2 : tie.Need-returns
unfolding leads_of
returns-2 c = simp (lt-ltb _ _ c.if-hull-m.false, ← c.next_place-next.ensures.0)

pub leads_spec : {M : Type 1} → statement M
leads_spec =
    tie.close (tie.spec returns (λ c κs. search rules) (λ c. search rules) (λ c. search rules) returns-2)
