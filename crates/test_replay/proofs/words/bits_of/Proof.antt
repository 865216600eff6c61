-- `test_replay::words::bits_of` meets its contract: a float that equals itself is no NaN.
use Rattle.root.specs.laws.Tests.{no_nan}
use Rattle.test_replay.specs.words.laws.Reading.{bits_nan, bits_number}
use Rattle.test_replay.proofs.words.bits_of.Statement.{statement}
use Rattle.test_replay.proofs.words.bits_of.Tie as tie

returns : tie.Need-returns-then-x
returns c = bits_nan _ c.if-x.true

float_to_bits-result : tie.Need-float_to_bits-result
float_to_bits-result c = no_nan _ c.if-x.false

returns-2 : tie.Need-returns
returns-2 c = bits_number _ c.if-x.false

pub bits_of_spec : {M : Type 1} → statement M
bits_of_spec = tie.close (tie.spec returns float_to_bits-result returns-2)
