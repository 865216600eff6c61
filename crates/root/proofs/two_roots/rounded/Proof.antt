-- `root::two_roots::rounded` meets its contract, case by case (`rounded_up`, `rounded_down`).
use mathlib.Core.Path.{sym}
use native.Mathlib.Omega.{arith}
use Rattle.root.specs.two_roots.laws.Slips.{rounded_up, rounded_down}
use Rattle.root.proofs.two_roots.rounded.Statement.{statement}
use Rattle.root.proofs.two_roots.rounded.Tie as tie

returns : tie.Need-returns-then-r
returns c = sym (rounded_up _ c.before.if-r.true)

returns-2 : tie.Need-returns
returns-2 c = sym (rounded_down _ c.before.if-r.false)

pub rounded_spec : {M : Type 1} → statement M
rounded_spec = tie.close (tie.spec (λ c. omega arith) returns returns-2)
