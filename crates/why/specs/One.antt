-- Theorem: no two texts may be printed for one input and one question.
use Rattle.std.specs.Prelude.{◌≡◌, List, ℕ}
use Rattle.std.proofs.Common.{sym, ap, ◌∙◌}
use Rattle.base.specs.common.laws.Refusals.{finds_one}
use Rattle.reasons.specs.declared.Question.{Question}
use Rattle.printing.specs.One.{of_form_one}
use Rattle.why.specs.line.ReasonLine.{reason_line}
use Rattle.why.specs.Printed.{WhyOfMesh, WhyPrints}

pub prints_one : (q : Question) {s a b : List ℕ} → WhyPrints q s a → WhyPrints q s b → a ≡ b
prints_one q x y = x.line ∙ ap reason_line (of_form_one {Told = WhyOfMesh q} (λ m g r t p u. finds_one p u) x.true y.true) ∙ sym y.line
