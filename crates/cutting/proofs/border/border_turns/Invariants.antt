-- `cutting::border::border_turns`: the turns so far are those of the places that were passed.
use Rattle.std.proofs.Common.{◌≡◌}
use Rattle.cutting.specs.border.Border.{turns_to}
use Rattle.cutting.proofs.border.border_turns.Given as goal

abbrev pub invariant-loop-i : goal.invariant-loop-i
invariant-loop-i l = l.t ≡ turns_to l.b l.sites l.triangles l.hull l.table l.centers l.i
