-- `ring_area::rounding::rounded_difference` meets its contract: from limb 0 on.
use mathlib.Core.Path.{◌∙◌}
use borrow.Author.Rules.{rules}
use Rattle.ring_area.specs.rounding.laws.Differences.{whole_half}
use Rattle.ring_area.proofs.rounding.rounded_difference.Statement.{statement}
use Rattle.ring_area.proofs.rounding.rounded_difference.Tie as tie

returns : tie.Need-returns
returns c = c.rounded_from.ensures ∙ whole_half _ _

pub rounded_difference_spec : {M : Type 1} → statement M
rounded_difference_spec =
    tie.close
    (tie.spec (λ c. search rules) (λ c κs. search rules) returns)
