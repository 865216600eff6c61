-- The tests of the definition, one after the other.
use Rattle.std.proofs.Common.{eq-eqb, ne_eqb}
use Rattle.nearest.specs.Printed.{with_box}
use Rattle.nearest.proofs.with_box.Statement.{statement}
use Rattle.nearest.proofs.with_box.Tie as tie

returns : tie.Need-returns-then-sound
unfolding with_box
returns c = rw c.if-sound.true

returns-2 : tie.Need-returns-then-number-eq-REFUSED_COUNT
unfolding with_box
returns-2 c = rw (c.if-sound.false, eq-eqb _ _ c.if-number-eq-REFUSED_COUNT.true)

returns-3 : tie.Need-returns
unfolding with_box
returns-3 c = rw (c.if-sound.false, ne_eqb _ _ c.if-number-eq-REFUSED_COUNT.false)

pub with_box_spec : {M : Type 1} → statement M
with_box_spec = tie.close (tie.spec returns returns-2 returns-3)
