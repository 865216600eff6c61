-- `root::two_roots::next_slip` meets its contract: the digit is 1 where what is tried goes in (`next_one`), else 0 (`next_zero`).
use mathlib.Core.Path.{sym}
use native.Mathlib.Omega.{arith}
use Rattle.root.specs.two_roots.laws.Slips.{next_one, next_zero}
use Rattle.root.proofs.two_roots.next_slip.Statement.{statement}
use Rattle.root.proofs.two_roots.next_slip.Tie as tie

returns : tie.Need-returns-then-tried-r
returns c = sym (next_one _ _ c.before.if-tried-r.true)

returns-2 : tie.Need-returns
returns-2 c = sym (next_zero _ _ c.before.if-tried-r.false)

pub next_slip_spec : {M : Type 1} → statement M
next_slip_spec = tie.close (tie.spec (λ c. omega arith) (λ c. omega arith) (λ c. omega arith) returns (λ c. omega arith) returns-2)
