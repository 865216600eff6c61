-- Every half-edge passed keeps the circle's rule: those of the triangles before t, and of triangle t the sides before `side`.
use Rattle.std.specs.Prelude.{◌≡◌, ℕ, ◌+◌, ◌*◌, ◌<◌, length}
use Rattle.grid.specs.scan.Judged.{CircleAt}
use Rattle.grid.proofs.scan.check_circles.Given as goal

abbrev pub invariant-triangles : goal.invariant-triangles
invariant-triangles l = (l.found ≡ length l.fn.triangles) × ((k : ℕ) → k < 3 * l.t → CircleAt l.fn.grid l.fn.triangles l.fn.halfedges k)

abbrev pub invariant-loop-side : goal.invariant-loop-side
invariant-loop-side l = (l.found ≡ length l.fn.triangles) × ((k : ℕ) → k < 3 * l.t + l.side → CircleAt l.fn.grid l.fn.triangles l.fn.halfedges k)
