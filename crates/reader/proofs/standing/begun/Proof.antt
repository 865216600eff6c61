-- `reader::standing::begun` meets its contract: one more exactly where a record of this kind is under way.
use native.Mathlib.Omega.{arith}
use borrow.Author.Tests.{ne_eqb, eq-eqb}
use Rattle.form.specs.step.Standing.{under}
use borrow.Author.Rules.{rules}
use Rattle.reader.proofs.standing.begun.Statement.{statement}
use Rattle.reader.proofs.standing.begun.Tie as tie

returns : tie.Need-returns-then-r-kind
unfolding under
returns c = (rw (ne_eqb _ _ c.if-r-kind.true) (omega arith), omega arith)

returns-2 : tie.Need-returns-then-r-eq0
unfolding under
returns-2 c = (rw (eq-eqb _ _ c.if-r-kind.false, c.if-r-eq0.true) (omega arith), omega arith)

returns-3 : tie.Need-returns
unfolding under
returns-3 c = (rw (eq-eqb _ _ c.if-r-kind.false, ne_eqb _ _ c.if-r-eq0.false), omega arith)

pub begun_spec : {M : Type 1} → statement M
begun_spec =
    tie.close
    (tie.spec returns returns-2 (λ c. search rules) returns-3)
