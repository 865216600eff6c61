-- The sum of a coordinate of the profile and 8,192 fits and is not below 0.
use Rattle.grid.specs.laws.Machine.{sum_fits, cast_fits, cast_is}
use Rattle.grid.proofs.raise.Statement.{statement}
use Rattle.grid.proofs.raise.Tie as tie

add-result : tie.Need-overflow_add-result
add-result c = sum_fits c.args.v c.ranges.v c.requires

cast-result : tie.Need-overflow_cast-result
cast-result c = cast_fits c.args.v c.ranges.v c.requires

returns : tie.Need-returns
returns c = cast_is c.args.v c.ranges.v c.requires

pub raise_spec : {M : Type 1} → statement M
raise_spec = tie.close (tie.spec add-result cast-result returns)
