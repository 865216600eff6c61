-- Each path begins where the last ended, and its end is written.
use Rattle.std.specs.Prelude.{length, ◌/◌}
use Rattle.queries.specs.bulk_ends.Ends.{end_from}
use Rattle.queries.specs.bulk_ends.laws.Writes.{Reaching}
use Rattle.queries.proofs.bulk_ends.write_ends.Given as goal

abbrev pub invariant-loop-i : goal.invariant-loop-i
invariant-loop-i l = Reaching (end_from l.sites l.triangles l.halfedges l.table) l.points l.site (length l.sites / 2) l.fn.out l.out l.at l.i
