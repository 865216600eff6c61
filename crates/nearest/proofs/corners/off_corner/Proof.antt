-- The corners in their order.
use mathlib.Core.Bool.{not}
use mathlib.Core.Path.{ap}
use Rattle.std.proofs.Common.{rules}
use Rattle.ring_area.specs.lowest.Lowest.{lowest_from}
use Rattle.plane.specs.boxes.Box.{corners_of}
use Rattle.nearest.proofs.corners.off_corner.Statement.{statement}
use Rattle.nearest.proofs.corners.off_corner.Tie as tie

returns : tie.Need-returns-then-not-admitted
unfolding lowest_from corners_of
returns c = rw (rw c.admitted.ensures at (ap not c.if-not-admitted.true))

returns-2 : tie.Need-returns-then-not-admitted-2
unfolding lowest_from corners_of
returns-2 c = rw (rw c.admitted.ensures at (ap not c.if-not-admitted.false), rw c.admitted-2.ensures at (ap not c.if-not-admitted-2.true))

returns-3 : tie.Need-returns-then-not-admitted-3
unfolding lowest_from corners_of
returns-3 c =
    rw (
      rw c.admitted.ensures at (ap not c.if-not-admitted.false),
      rw c.admitted-2.ensures at (ap not c.if-not-admitted-2.false),
      rw c.admitted-3.ensures at (ap not c.if-not-admitted-3.true),
    )

returns-4 : tie.Need-returns-then-not-admitted-4
unfolding lowest_from corners_of
returns-4 c =
    rw (
      rw c.admitted.ensures at (ap not c.if-not-admitted.false),
      rw c.admitted-2.ensures at (ap not c.if-not-admitted-2.false),
      rw c.admitted-3.ensures at (ap not c.if-not-admitted-3.false),
      rw c.admitted-4.ensures at (ap not c.if-not-admitted-4.true),
    )

returns-5 : tie.Need-returns
unfolding lowest_from corners_of
returns-5 c =
    rw (
      rw c.admitted.ensures at (ap not c.if-not-admitted.false),
      rw c.admitted-2.ensures at (ap not c.if-not-admitted-2.false),
      rw c.admitted-3.ensures at (ap not c.if-not-admitted-3.false),
      rw c.admitted-4.ensures at (ap not c.if-not-admitted-4.false),
    )

pub off_corner_spec : {M : Type 1} → statement M
off_corner_spec =
    tie.close
    (tie.spec (λ c κs. search rules) returns (λ c κs. search rules) returns-2 (λ c κs. search rules) returns-3 (λ c κs. search rules) returns-4 returns-5)
