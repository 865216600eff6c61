-- `mend::from_end` meets its contract: by cases.
use mathlib.Core.Path.{refl}
use native.Mathlib.Omega.{arith}
use Rattle.mend.proofs.from_end.Statement.{statement}
use Rattle.mend.proofs.from_end.Tie as tie

pub from_end_spec : {M : Type 1} → statement M
from_end_spec = tie.close (tie.spec (λ c. omega (arith, c.if-count-k.true)) (λ c. refl))
