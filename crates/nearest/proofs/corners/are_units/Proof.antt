-- The limit first; then the quotient is compared, of two numbers that an f64 holds exactly.
use Rattle.std.proofs.Common.{◌^◌, arith, le→leb, rules, le-ltb, lt-ltb}
use lib.Ieee.{in_float}
use Rattle.nearest.specs.corners.Tried.{are_units}
use Rattle.nearest.proofs.corners.are_units.Statement.{statement}
use Rattle.nearest.proofs.corners.are_units.Tie as tie

returns : tie.Need-returns-then-room-v
unfolding are_units
returns c = rw (le-ltb _ _ c.if-room-v.true)

int_to_float-result : tie.Need-int_to_float-result
unfolding in_float
int_to_float-result c = le→leb c.args.v (2 ^ 53) (omega (arith, c.if-room-v.false))

returns-2 : tie.Need-returns
unfolding are_units
returns-2 c = rw (lt-ltb _ _ c.if-room-v.false)

pub are_units_spec : {M : Type 1} → statement M
are_units_spec =
    tie.close (tie.spec (λ c. search rules) (λ c. search rules) (λ c. search rules) returns int_to_float-result (λ c. search rules) returns-2)
