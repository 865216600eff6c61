-- What was passed is off the window or listed.
use Rattle.std.proofs.Common.{◌≡◌, length}
use Rattle.certifying.specs.tree.Steps.{Sifted}
use Rattle.certifying.proofs.tree.sift.Given as goal

abbrev pub invariant-loop-j : goal.invariant-loop-j
invariant-loop-j l = Sifted l.sites l.room l.w l.from l.j l.count l.list × (length l.list ≡ length l.fn.list)
