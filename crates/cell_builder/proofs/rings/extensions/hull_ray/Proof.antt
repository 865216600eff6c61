-- `cell_builder::rings::extensions::hull_ray` meets its contract: the half-edge of a hull place has its circumcenter among the vertices.
use native.Mathlib.Omega.{arith}
use Rattle.cell_builder.specs.rings.laws.Extensions.{reached_edge, reached_center}
use Rattle.cell_builder.proofs.rings.extensions.hull_ray.Statement.{statement}
use Rattle.cell_builder.proofs.rings.extensions.hull_ray.Tie as tie

abbrev Start : tie.After-shared_slice_known-5-1 → tie.Start
Start c = c.before.before.before.before.before

hull_edge-requires : tie.Need-hull_edge-requires
hull_edge-requires c κs = ((Start c).requires.1, (Start c).requires.0.extends.hulled)

ray_over-requires : tie.Need-ray_over-requires
ray_over-requires c κs =
    let x = (Start c.before).requires.0 in
    let h = (Start c.before).requires.1 in (
      x.extends.named,
      omega (arith, x.extends.threes),
      rw c.hull_edge.ensures (reached_edge x _ h),
      x.room,
      rw c.hull_edge.ensures (reached_center x _ h),
    )

returns : tie.Need-returns
returns c = rw (c.ray_over.ensures, c.hull_edge.ensures)

pub hull_ray_spec : {M : Type 1} → statement M
hull_ray_spec = tie.close (tie.spec hull_edge-requires ray_over-requires returns)
