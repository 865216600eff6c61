-- The box by its center and size, and the call in it.
use Rattle.cutting_calls.specs.call.laws.Order.{size_ordered}
use Rattle.voronoi.specs.laws.InGiven.{cut_in}
use Rattle.voronoi.proofs.cuts.voronoi_cut.Goals as goal

pub cut-done-requires : goal.cut-done-requires
cut-done-requires c = rw c.by_size-given.ensures (size_ordered _ _ _)

pub returns : goal.returns
returns c = let p = c.put_count.ensures in rw (p.0, p.1) (cut_in c.by_size-given.ensures c.cut-done.ensures)
