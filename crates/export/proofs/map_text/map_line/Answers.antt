-- `export::map_text::map_line` meets its contract: the number, the comma, the digits and the line's end, one after the other.
use native.Mathlib.Omega.{arith}
use lib.ListN.{length-append}
use Rattle.octets.specs.laws.Wrote.{wrote_then}
use Rattle.export.specs.map_text.MapText.{map_line}
use Rattle.export.proofs.map_text.map_line.Goals as goal

pub returns : goal.returns
unfolding map_line
returns c =
    wrote_then (wrote_then (wrote_then c.decimal-a.ensures c.put-b.ensures) c.put_hex-c.ensures) c.put.ensures

pub decimal-a-requires : goal.decimal-a-requires
unfolding map_line
decimal-a-requires c = omega (arith, simp length-append at c.requires)

pub put-b-requires : goal.put-b-requires
unfolding map_line
put-b-requires c = omega (arith, simp length-append at c.requires)

pub put_hex-c-requires : goal.put_hex-c-requires
unfolding map_line
put_hex-c-requires c = omega (arith, simp length-append at c.requires)

pub put-requires : goal.put-requires
unfolding map_line
put-requires c = omega (arith, simp length-append at c.requires)
