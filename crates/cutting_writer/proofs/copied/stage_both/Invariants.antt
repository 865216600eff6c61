-- `cutting_writer::copied::stage_both`: the two ends near each other.
use Rattle.std.proofs.Common.{◌≡◌, ◌+◌, ◌-◌, length}
use Rattle.cutting_writer.specs.copied.laws.Closing.{EndsNearing}
use Rattle.cutting_writer.proofs.copied.stage_both.Given as goal

abbrev pub invariant-loop-i : goal.invariant-loop-i
invariant-loop-i l =
    EndsNearing l.b l.halfedges l.centers l.t l.n l.fn.first l.stage l.i l.e l.last (l.n + 1 - l.i) l.f l.next
    × (length l.stage ≡ length l.fn.stage)
