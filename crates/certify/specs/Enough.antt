-- Theorem: 6,947 bytes of an input decide what is printed for it, however long it is: no form has more than 6,946.
use Rattle.std.specs.Prelude.{List, ℕ, take}
use Rattle.form.specs.Limits.{enough_bytes}
use Rattle.printing.specs.Enough as form
use Rattle.certify.specs.Printed.{CertifyPrints}

pub enough : (s text : List ℕ) → CertifyPrints (take enough_bytes s) text → CertifyPrints s text
enough s text p = form.enough s p
