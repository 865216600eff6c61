-- What is left and what was counted are the room.
use Rattle.std.proofs.Common.{◌-◌, length}
use Rattle.all_wkb.specs.Steps.{size_at}
use Rattle.all_wkb.specs.laws.Sizes.{Counting}
use Rattle.all_wkb.proofs.fits.Given as goal

abbrev pub invariant-loop-s : goal.invariant-loop-s
invariant-loop-s l = Counting (size_at l.offsets l.indexes) (length l.offsets - 1) l.room l.left l.s
