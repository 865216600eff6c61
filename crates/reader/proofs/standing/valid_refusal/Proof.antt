-- `reader::standing::valid_refusal` meets its contract: each `return` is one of the definition's cases.
use borrow.Author.Tests.{ne_eqb}
use Rattle.reader.specs.standing.Stands.{valid_refusal}
use borrow.Author.Rules.{rules}
use Rattle.reader.proofs.standing.valid_refusal.Statement.{statement}
use Rattle.reader.proofs.standing.valid_refusal.Tie as tie

returns : tie.Need-returns-then-refusal-eq0
unfolding valid_refusal
returns c = rw c.if-refusal-eq0.true

returns-2 : tie.Need-returns-then-refusal
unfolding valid_refusal
returns-2 c = rw (ne_eqb _ _ c.if-refusal-eq0.false, ne_eqb _ _ c.if-refusal.true)

returns-3 : tie.Need-returns-then-left-ne0
unfolding valid_refusal
returns-3 c = rw (ne_eqb _ _ c.if-refusal-eq0.false, c.if-refusal.false, ne_eqb _ _ c.if-left-ne0.true)

returns-4 : tie.Need-returns
unfolding valid_refusal
returns-4 c = rw (ne_eqb _ _ c.if-refusal-eq0.false, c.if-refusal.false, c.if-left-ne0.false)

pub valid_refusal_spec : {M : Type 1} → statement M
valid_refusal_spec = tie.close (tie.spec returns (λ c. search rules) (λ c. search rules) returns-2 returns-3 returns-4)
