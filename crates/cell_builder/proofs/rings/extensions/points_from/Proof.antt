-- `cell_builder::rings::extensions::points_from` meets its contract: at an odd place the point that was kept, at an even one the two rays' extensions.
use native.Mathlib.Omega.{arith}
use borrow.Author.Rules.{rules}
use Rattle.cell_builder.specs.rings.laws.Extensions.{two_rays}
use Rattle.cell_builder.proofs.rings.extensions.points_from.Statement.{statement}
use Rattle.cell_builder.proofs.rings.extensions.points_from.Tie as tie

abbrev Start : tie.After-shared_slice_known-5-1 → tie.Start
Start c = c.before.before.before.before.before

returns : tie.Need-returns-then-i-eq1
returns c =
    let pre = (Start c.before).requires in
    record { first = pre.1 pre.0.1 c.if-i-eq1.true; second = λ e. absurd (omega arith) }

next_place-requires : tie.Need-next_place-j-requires
next_place-requires c κs = (Start c.before).requires.0.1

hull_ray-requires : tie.Need-hull_ray-requires
hull_ray-requires c κs = (Start c.before.before).requires.0

hull_ray-requires-2 : tie.Need-hull_ray-requires-2
hull_ray-requires-2 c κs = ((Start c.before.before.before).requires.0.0, c.next_place-j.ensures.1)

returns-2 : tie.Need-returns
returns-2 c =
    let at-ray = c in
    two_rays _ _ _ _ _ _ _ _ _ _ at-ray.hull_ray.ensures c.hull_ray-2.ensures at-ray.next_place-j.ensures.0 c.extend_voronoi_vertices.ensures

pub points_from_spec : {M : Type 1} → statement M
points_from_spec =
    tie.close
    (tie.spec returns next_place-requires hull_ray-requires hull_ray-requires-2 (λ c κs. search rules) returns-2)
