-- `export::map_text::map_text` meets its contract: the heading, then the lines.
use native.Mathlib.Omega.{arith}
use lib.ListN.{length-append}
use Rattle.octets.specs.laws.Wrote.{wrote_then}
use Rattle.export.specs.map_text.MapText.{heading, map_text}
use Rattle.export.proofs.map_text.map_text.Goals as goal

pub map_lines-requires : goal.map_lines-requires
unfolding heading map_text
map_lines-requires c =
    rw c.wide.ensures (c.requires.0, omega (arith, simp length-append at c.requires.1))

pub returns : goal.returns
unfolding heading map_text
returns c =
    wrote_then c.put-end.ensures (rw c.wide.ensures at c.map_lines.ensures)

pub put-end-requires : goal.put-end-requires
unfolding heading map_text
put-end-requires c = omega (arith, simp length-append at c.requires.1)
