-- Both coordinates.
use Rattle.std.proofs.Common.{rules}
use Rattle.nearest.proofs.corners.in_both.Statement.{statement}
use Rattle.nearest.proofs.corners.in_both.Tie as tie

returns : tie.Need-returns
returns c = rw (c.in_units.ensures, c.in_units-2.ensures)

pub in_both_spec : {M : Type 1} → statement M
in_both_spec = tie.close (tie.spec (λ c κs. search rules) (λ c κs. search rules) returns)
