-- `clipping::edges::together` meets its contract: three sums that stay small.
use native.Mathlib.Omega.{arith}
use mathlib.Core.Path.{refl}
use Rattle.clipping.proofs.edges.together.Statement.{statement}
use Rattle.clipping.proofs.edges.together.Tie as tie

pub together_spec : {M : Type 1} → statement M
together_spec = tie.close (tie.spec (λ c. omega arith) (λ c. omega arith) (λ c. omega arith) (λ c. refl))
