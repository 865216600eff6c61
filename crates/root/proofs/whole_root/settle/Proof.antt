-- `root::whole_root::settle` meets its contract: the digit is 1 where what is left is more than twice the root (`settled_one`), else 0 (`settled_zero`).
use mathlib.Core.Path.{sym}
use native.Mathlib.Omega.{arith}
use Rattle.root.specs.whole_root.laws.Turns.{settled_zero, settled_one}
use Rattle.root.proofs.whole_root.settle.Statement.{statement}
use Rattle.root.proofs.whole_root.settle.Tie as tie

returns : tie.Need-returns-then-twice-p
returns c = sym (settled_one _ c.before.before.if-twice-p.true)

returns-2 : tie.Need-returns
returns-2 c = sym (settled_zero _ c.if-twice-p.false)

pub settle_spec : {M : Type 1} → statement M
settle_spec =
    tie.close
    (tie.spec (λ c. omega arith) (λ c. omega arith) (λ c. omega arith) (λ c. omega arith) returns returns-2)
