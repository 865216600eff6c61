-- `mend::boxes::number_at` meets its contract: the float of eight bytes.
use mathlib.Core.Path.{ap, ◌∙◌}
use Rattle.form.specs.Form.{float}
use borrow.Author.Rules.{rules}
use Rattle.mend.proofs.boxes.number_at.Statement.{statement}
use Rattle.mend.proofs.boxes.number_at.Tie as tie

returns : tie.Need-returns
returns c = c.float_of.ensures ∙ ap float c.get.ensures.0

pub number_at_spec : {M : Type 1} → statement M
number_at_spec = tie.close (tie.spec (λ c κs. search rules) (λ c κs. search rules) returns)
