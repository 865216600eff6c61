-- The box by its center and size, and the call in it.
use Rattle.plane.specs.given.Finite.{size_fits}
use Rattle.voronoi.specs.laws.InGiven.{build_in}
use Rattle.voronoi.proofs.builds.voronoi_build.Goals as goal

pub build-requires : goal.build-requires
build-requires c = rw c.by_size-given.ensures (size_fits _ _ _)

pub returns : goal.returns
returns c = rw c.number.ensures (build_in c.by_size-given.ensures c.build.ensures)
