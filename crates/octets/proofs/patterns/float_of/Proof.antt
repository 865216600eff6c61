-- `octets::patterns::float_of` meets its contract: a pattern above infinity's is a NaN's, whatever its sign, and no other is.
use mathlib.Core.Path.{sym, ◌∙◌, subst}
use mathlib.Core.Bool.{Bool, not}
use lib.Dec.{T}
use lib.Ieee.{binary64}
use lib.Ieee.Bits.{nan_bits_is}
use Rattle.root.specs.laws.Signs.{above_nan, up_to_no_nan, no_quotient}
use borrow.Author.Rules.{rules}
use Rattle.octets.proofs.patterns.float_of.Statement.{statement}
use Rattle.octets.proofs.patterns.float_of.Tie as tie

returns : tie.Need-returns-then-bits-gt-INFINITY
returns c = no_quotient ∙ sym (above_nan c.args.bits c.if-bits-gt-INFINITY.true)

float_from_bits-result : tie.Need-float_from_bits-result
float_from_bits-result c = subst (λ (b : Bool). T (not b)) (sym (nan_bits_is binary64 c.args.bits)) (up_to_no_nan c.args.bits c.if-bits-gt-INFINITY.false)

pub float_of_spec : {M : Type 1} → statement M
float_of_spec = tie.close (tie.spec returns float_from_bits-result (λ c. search rules))
