-- List after list, and where each ends.
use Rattle.std.specs.Prelude.{length}
use Rattle.queries.specs.all_neighbours.Lists.{list_of}
use Rattle.queries.specs.all_neighbours.laws.Writes.{WritingLists}
use Rattle.queries.proofs.all_neighbours.write_lists.Given as goal

abbrev pub invariant-loop-s : goal.invariant-loop-s
invariant-loop-s l =
    WritingLists (list_of l.triangles l.halfedges l.table l.offsets l.indexes) (length l.table) l.initial.starts l.initial.out l.starts l.out l.n l.s
