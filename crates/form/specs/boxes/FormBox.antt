-- The box that a form gives, by the kind of its first record and the four numbers in it: 7 left, top, right, bottom; else center, width, height.
use Rattle.std.specs.Prelude.{List, ℕ, eqb, Float, get_or}
use Rattle.std.specs.Float.{nan}
use Rattle.base.specs.common.Pick.{pick}
use Rattle.plane.specs.points.Plane.{at}
use Rattle.plane.specs.given.Given.{by_size, by_edges}
use Rattle.plane.specs.declared.given.Given.{Given}

abbrev pub box_by : ℕ → List Float → Given
box_by kind l =
    pick (eqb kind 7)
    (λ _. by_edges (get_or l 0 nan) (get_or l 1 nan) (get_or l 2 nan) (get_or l 3 nan))
    (λ _. by_size (at (get_or l 0 nan) (get_or l 1 nan)) (get_or l 2 nan) (get_or l 3 nan))
