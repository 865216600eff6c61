-- `test_replay::words::float_of` meets its contract: a pattern up to infinity's, whatever its sign, is no NaN's.
use mathlib.Core.Path.{sym, subst, ◌∙◌}
use mathlib.Core.Bool.{Bool, not}
use lib.Dec.{T}
use lib.Ieee.{binary64}
use lib.Ieee.Bits.{nan_bits_is}
use Rattle.root.specs.laws.Signs.{no_quotient, up_to_no_nan}
use Rattle.test_replay.specs.words.laws.Reading.{float_nan, float_number}
use Rattle.test_replay.proofs.words.float_of.Statement.{statement}
use Rattle.test_replay.proofs.words.float_of.Tie as tie

returns : tie.Need-returns-then-bits-gt-INFINITY
returns c = no_quotient ∙ float_nan _ c.if-bits-gt-INFINITY.true

float_from_bits-result : tie.Need-float_from_bits-result
float_from_bits-result c = subst (λ (b : Bool). T (not b)) (sym (nan_bits_is binary64 c.args.bits)) (up_to_no_nan c.args.bits c.if-bits-gt-INFINITY.false)

returns-2 : tie.Need-returns
returns-2 c = float_number _ c.if-bits-gt-INFINITY.false

pub float_of_spec : {M : Type 1} → statement M
float_of_spec = tie.close (tie.spec returns float_from_bits-result returns-2)
