-- `mend::box_line::pattern` meets its contract: the blank, then the digits.
use native.Mathlib.Omega.{arith}
use lib.ListN.{length-append}
use Rattle.octets.specs.laws.Wrote.{wrote_then}
use Rattle.mend.proofs.box_line.pattern.Goals as goal

pub returns : goal.returns
returns c =
    wrote_then c.put-end.ensures c.put_turned.ensures

pub put-end-requires : goal.put-end-requires
put-end-requires c = omega (arith, simp length-append at c.requires)

pub put_turned-requires : goal.put_turned-requires
put_turned-requires c = omega (arith, simp length-append at c.requires)
