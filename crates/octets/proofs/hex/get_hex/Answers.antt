-- `octets::hex::get_hex` meets its contract: each turn puts in one byte more.
use Rattle.std.proofs.Common.{arith}
use Rattle.octets.specs.hex.laws.Unhex.{reading_length, reading_step, reading_end}
use Rattle.octets.proofs.hex.get_hex.Goals as goal

pub loop-i-preserved : goal.loop-i-preserved
loop-i-preserved c =
    let l = c.loop-i in
    reading_step l.invariant (omega (arith, c.loop-i-test.true, reading_length l.invariant)) c.byte_of.ensures

pub returns : goal.returns
returns c = reading_end c.loop-i.invariant (omega (arith, c.loop-i-test.false, reading_length c.loop-i.invariant))
