-- `certifying::nearer::no_others` meets its contract: a part of no length.
use mathlib.Core.Path.{refl}
use Rattle.certifying.proofs.nearer.no_others.Statement.{statement}
use Rattle.certifying.proofs.nearer.no_others.Tie as tie

pub no_others_spec : {M : Type 1} → statement M
no_others_spec = tie.close (tie.spec (λ c. refl) (λ c. refl))
