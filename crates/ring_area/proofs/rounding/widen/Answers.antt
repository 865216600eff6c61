-- `ring_area::rounding::widen` meets its contract: a coordinate that is within the limit has a pattern.
use Rattle.root.specs.laws.Bounds.{bounded_finite, finite_no_nan}
use Rattle.ring_area.specs.laws.Splits.{pattern_low}
use Rattle.ring_area.proofs.rounding.widen.Goals as goal

pub float_to_bits-x : goal.float_to_bits-x
float_to_bits-x c = finite_no_nan c.args.x (bounded_finite c.args.x 400 c.requires)

pub split-s-requires : goal.split-s-requires
split-s-requires c = (pattern_low c.args.x c.requires).low
