-- The loop follows the definition triangle by triangle.
use Rattle.cell_builder.specs.rings.laws.Centers.{CentersTo}
use Rattle.cell_builder.proofs.rings.circumcenters.calculate_circumcenters.Given as goal

abbrev pub invariant-loop-t : goal.invariant-loop-t
invariant-loop-t l = CentersTo l.sites l.triangles l.count l.fn.vertices l.vertices l.t
