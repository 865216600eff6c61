-- `cutting::meet::reach_by`: each answer by the tests that lead to it.
use mathlib.Core.Path.{refl}
use lib.Ieee.{nan_bits}
use Rattle.cutting.specs.meet.Crossing.{reach_by}
use Rattle.cutting.proofs.meet.reach_by.Statement.{statement}
use Rattle.cutting.proofs.meet.reach_by.Tie as tie

float_from_bits-result : tie.Need-float_from_bits-result
unfolding nan_bits
float_from_bits-result c = tt

float_from_bits-result-2 : tie.Need-float_from_bits-result-then-d-2
unfolding nan_bits
float_from_bits-result-2 c = tt

returns : tie.Need-returns-then-d
unfolding reach_by
returns c = rw (c.if-far.true, c.if-d.true) refl

returns-2 : tie.Need-returns-then-d-2
unfolding reach_by
returns-2 c = rw (c.if-far.true, c.if-d.false, c.if-d-2.true) refl

returns-3 : tie.Need-returns-else-d-2
unfolding reach_by
returns-3 c = rw (c.if-far.true, c.if-d.false, c.if-d-2.false) refl

returns-4 : tie.Need-returns-else-far
unfolding reach_by
returns-4 c = rw c.if-far.false refl

pub reach_by_spec : {M : Type 1} → statement M
reach_by_spec = tie.close (tie.spec float_from_bits-result float_from_bits-result-2 returns returns-2 returns-3 returns-4)
