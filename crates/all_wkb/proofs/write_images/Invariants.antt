-- Image after image, and where each ends.
use Rattle.std.proofs.Common.{◌-◌, length}
use Rattle.queries.specs.all_neighbours.laws.Writes.{WritingLists}
use Rattle.all_wkb.specs.Promise.{image_at}
use Rattle.all_wkb.proofs.write_images.Given as goal

abbrev pub invariant-loop-s : goal.invariant-loop-s
invariant-loop-s l = WritingLists (image_at l.vertices l.offsets l.indexes) (length l.offsets - 1) l.initial.starts l.initial.out l.starts l.out l.n l.s
