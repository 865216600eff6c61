-- `cutting_writer::end::kept_at` meets its contract.
use native.Mathlib.Omega.{arith}
use borrow.Author.Rules.{rules}
use borrow.Author.Tests.{lt-ltb, le-ltb}
use Rattle.cutting_writer.specs.end.Ended.{kept_at}
use Rattle.cutting_writer.proofs.end.kept_at.Statement.{statement}
use Rattle.cutting_writer.proofs.end.kept_at.Tie as tie

returns : tie.Need-returns-then-at-begin-lt3
unfolding kept_at
returns c = (rw (lt-ltb _ _ c.if-at-begin-lt3.true), omega arith, omega arith)

returns-2 : tie.Need-returns
unfolding kept_at
returns-2 c = (rw (le-ltb _ _ c.if-at-begin-lt3.false), omega arith, omega arith)

pub kept_at_spec : {M : Type 1} → statement M
kept_at_spec = tie.close (tie.spec (λ c. search rules) returns returns-2)
