-- `cutting_writer::copied::previous`: the next of it is p again, in the same triangle.
use Prim.Native.Nat.{◌+◌, ◌-◌}
use Rattle.mesh.specs.laws.Next.{next_sum}
use native.Mathlib.Omega.{arith}
use Rattle.cutting_writer.proofs.copied.previous.Statement.{statement}
use Rattle.cutting_writer.proofs.copied.previous.Tie as tie

add-result : tie.Need-overflow_add-result
add-result c = omega (arith, c.if-p-eq0.true, c.requires)

returns : tie.Need-returns-then-p-eq0
returns c = (omega (arith, next_sum (c.args.p + 2), c.if-p-eq0.true), omega (arith, c.if-p-eq0.true))

sub-result : tie.Need-overflow_sub-result
sub-result c = omega (arith, c.if-p-eq0.false)

returns-2 : tie.Need-returns
returns-2 c = (omega (arith, next_sum (c.args.p - 1), c.if-p-eq0.false), omega (arith, c.if-p-eq0.false))

pub previous_spec : {M : Type 1} → statement M
previous_spec = tie.close (tie.spec add-result returns sub-result returns-2)
