-- `mend::first_length` meets its contract: by cases.
use native.Mathlib.Omega.{arith}
use borrow.Author.Tests.{eq-eqb, ne_eqb}
use Rattle.mend.proofs.first_length.Statement.{statement}
use Rattle.mend.proofs.first_length.Tie as tie

pub first_length_spec : {M : Type 1} → statement M
first_length_spec = tie.close (tie.spec (λ c. (rw (eq-eqb _ _ c.if-clip-eq6.true), omega arith, omega arith)) (λ c. (rw (ne_eqb _ _ c.if-clip-eq6.false), omega arith, omega arith)))
