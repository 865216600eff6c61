-- The schoolbook's identity holds on each page, so that a turn can be taken on it.
use Rattle.std.proofs.Common.{◌^◌}
use Rattle.root.specs.whole_root.Turn.{Schoolbook}
use Rattle.test_digits.proofs.main.Given as goal

abbrev pub invariant-loop-i : goal.invariant-loop-i
invariant-loop-i l = Schoolbook (2 ^ 53) l.i l.page
