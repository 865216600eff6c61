-- The places that were passed are written.
use Rattle.areas.specs.Promise.{area_at}
use Rattle.areas.specs.laws.Writes.{AreasTo}
use Rattle.areas.proofs.write_areas.Given as goal

abbrev pub invariant-loop-s : goal.invariant-loop-s
invariant-loop-s l = AreasTo (area_at l.vertices l.offsets l.indexes) l.fn.areas l.areas l.s
