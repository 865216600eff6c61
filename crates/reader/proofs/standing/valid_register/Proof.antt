-- `reader::standing::valid_register` meets its contract: each `return` is one of the definition's cases.
use native.Mathlib.Omega.{arith}
use native.Mathlib.Nat.{pos_of_ne-zero}
use borrow.Author.Tests.{lt-ltb, le-ltb, ne_eqb}
use Rattle.reader.specs.standing.Stands.{valid_register}
use Rattle.reader.proofs.standing.valid_register.Statement.{statement}
use Rattle.reader.proofs.standing.valid_register.Tie as tie

returns : tie.Need-returns-then-n-eq0
unfolding valid_register
returns c = rw c.if-n-eq0.true

returns-2 : tie.Need-returns-then-n-lt8
unfolding valid_register
returns-2 c = rw (ne_eqb _ _ c.if-n-eq0.false, lt-ltb _ _ c.if-n-lt8.true, c.low.ensures.0)

returns-3 : tie.Need-returns
unfolding valid_register
returns-3 c = rw (ne_eqb _ _ c.if-n-eq0.false, le-ltb _ _ c.if-n-lt8.false)

pub valid_register_spec : {M : Type 1} → statement M
valid_register_spec =
    tie.close
    (tie.spec returns (λ c κs. (pos_of_ne-zero c.before.if-n-eq0.false, c.if-n-lt8.true)) (λ c. omega (arith, c.low.ensures.1)) returns-2 returns-3)
