-- `cutting::corner::past_low`: each answer by the tests that lead to it.
use mathlib.Core.Path.{refl}
use Rattle.cutting.proofs.corner.past_low.Statement.{statement}
use Rattle.cutting.proofs.corner.past_low.Tie as tie

returns : tie.Need-returns-then-d
returns c = rw (c.if-far.true, c.if-d.true) refl

returns-2 : tie.Need-returns-then-d-2
returns-2 c = rw (c.if-far.true, c.if-d.false, c.if-d-2.true) refl

returns-3 : tie.Need-returns-else-d-2
returns-3 c = rw (c.if-far.true, c.if-d.false, c.if-d-2.false) refl

returns-4 : tie.Need-returns-else-far
returns-4 c = rw c.if-far.false refl

pub past_low_spec : {M : Type 1} → statement M
past_low_spec = tie.close (tie.spec returns returns-2 returns-3 returns-4)
