-- `plane::centers::centroid_of`: the sum over the count, which an f64 holds exactly.
use Prim.Native.Nat.{◌^◌}
use borrow.Author.Rules.{rules}
use lib.Dec.{le→leb}
use lib.Ieee.{in_float}
use native.Mathlib.Omega.{arith}
use Rattle.plane.specs.centers.Centroid.{mean_of}
use Rattle.plane.proofs.centers.centroid_of.Statement.{statement}
use Rattle.plane.proofs.centers.centroid_of.Tie as tie

int_to_float-n : tie.Need-int_to_float-n
unfolding in_float
int_to_float-n c = le→leb c.before.before.before.args.count (2 ^ 53) (omega arith)

returns : tie.Need-returns
unfolding mean_of
returns c = rw (← c.before.before.before.sum_of-r.ensures)

pub centroid_of_spec : {M : Type 1} → statement M
centroid_of_spec = tie.close (tie.spec (λ c κs. search rules) int_to_float-n returns)
