-- `ring_area::limits::over` meets its contract: a difference without a borrow, or nothing.
use lib.ListN.{length-replicate}
use Prim.Native.Nat.{ℕ}
use borrow.Author.Rules.{rules}
use Rattle.ring_area.specs.limits.laws.Overs.{over_kept, over_none}
use Rattle.ring_area.proofs.limits.over.Statement.{statement}
use Rattle.ring_area.proofs.limits.over.Tie as tie

returns : tie.Need-returns-then-difference-eq0
returns c = over_kept c.difference.ensures (length-replicate {A = ℕ} 94 0) c.if-difference-eq0.true

returns-2 : tie.Need-returns
returns-2 c = over_none c.difference.ensures c.if-difference-eq0.false

pub over_spec : {M : Type 1} → statement M
over_spec = tie.close (tie.spec (λ c. search rules) (λ c κs. search rules) returns returns-2)
