-- Theorem: 6,947 bytes of an input decide what is printed for it, however long it is: no form has more than 6,946.
use Rattle.std.specs.Prelude.{List, ℕ, take}
use Rattle.reasons.specs.declared.Question.{Question}
use Rattle.form.specs.Limits.{enough_bytes}
use Rattle.printing.specs.Enough as form
use Rattle.why.specs.Printed.{WhyPrints}

pub enough : (q : Question) (s text : List ℕ) → WhyPrints q (take enough_bytes s) text → WhyPrints q s text
enough q s text p = record { reason = p.reason; true = form.enough s p.true; line = p.line }
