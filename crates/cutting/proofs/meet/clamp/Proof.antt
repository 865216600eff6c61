-- `cutting::meet::clamp`: each answer by the tests that lead to it.
use mathlib.Core.Path.{refl}
use Rattle.cutting.specs.meet.Crossing.{clamp_of}
use Rattle.cutting.proofs.meet.clamp.Statement.{statement}
use Rattle.cutting.proofs.meet.clamp.Tie as tie

returns : tie.Need-returns-then-hi-t
unfolding clamp_of
returns c = rw (c.if-lo-t.true, c.if-hi-t.true) refl

returns-2 : tie.Need-returns-else-hi-t
unfolding clamp_of
returns-2 c = rw (c.if-lo-t.true, c.if-hi-t.false) refl

returns-3 : tie.Need-returns-else-lo-t
unfolding clamp_of
returns-3 c = rw c.if-lo-t.false refl

pub clamp_spec : {M : Type 1} → statement M
clamp_spec = tie.close (tie.spec returns returns-2 returns-3)
