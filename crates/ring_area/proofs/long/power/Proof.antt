-- `ring_area::long::power` meets its contract: no bit is shifted out.
use mathlib.Core.Path.{◌∙◌}
use native.Mathlib.Nat.{one-mul}
use native.Mathlib.Omega.{arith}
use lib.Dec.{lit<}
use lib.Pow.{shl_exact}
use borrow.Author.Rules.{rules}
use Rattle.ring_area.proofs.long.power.Statement.{statement}
use Rattle.ring_area.proofs.long.power.Tie as tie

returns : tie.Need-returns
returns c = shl_exact 1 c.args.b 64 (lit< tt) (omega arith) ∙ one-mul _

pub power_spec : {M : Type 1} → statement M
power_spec =
    tie.close
    (tie.spec (λ c. search rules) returns)
