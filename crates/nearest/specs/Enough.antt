-- Theorem: 6,947 bytes of an input decide what is printed for it, however long it is: no form has more than 6,946.
use Rattle.std.specs.Prelude.{ℕ, List, take}
use Rattle.form.specs.Limits.{enough_bytes}
use Rattle.printing.specs.Enough as form
use Rattle.nearest.specs.Printed.{NearestPrints}

pub enough : (s text : List ℕ) → NearestPrints (take enough_bytes s) text → NearestPrints s text
enough s text p = record { line = p.line; true = form.enough s p.true; shown = p.shown }
