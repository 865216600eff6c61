-- `clipping::step::stay` meets its contract: one entry more, and nothing else.
use native.Mathlib.Omega.{arith}
use mathlib.Core.Path.{refl}
use Rattle.definition.specs.Cell.{plain}
use Rattle.clipping.specs.corners.laws.CellEntries.{puts_more}
use Rattle.clipping.specs.laws.EdgeOutcome.{none_counted}
use borrow.Author.Rules.{rules}
use Rattle.clipping.proofs.step.stay.Statement.{statement}
use Rattle.clipping.proofs.step.stay.Tie as tie

returns : tie.Need-returns
returns c =
    let p = c.push-put in
    λ vs. (refl, refl, refl, refl, λ e. (let h = p.ensures.1 in omega arith), puts_more 3 (omega arith) (p.ensures.0 plain), none_counted)

pub stay_spec : {M : Type 1} → statement M
stay_spec = tie.close (tie.spec (λ c κs. search rules) (λ c. search rules) returns)
