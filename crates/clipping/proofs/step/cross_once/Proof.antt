-- `clipping::step::cross_once` meets its contract: the leading edge where the cell is open, then the refusal of a lone crossing.
use mathlib.Core.Path.{refl}
use borrow.Author.Rules.{rules}
use Rattle.clipping.proofs.step.cross_once.Statement.{statement}
use Rattle.clipping.proofs.step.cross_once.Tie as tie

pub cross_once_spec : {M : Type 1} → statement M
cross_once_spec = tie.close (tie.spec (λ c κs. search rules) (λ c. search rules) (λ c. refl))
