-- Where a ray crosses the box: the points of its line that do not lie behind its start, the nearer one first.
use Rattle.std.specs.Prelude.{Bool, ◌&&◌, Float}
use Rattle.std.specs.Float.Ieee.{lt, eq}
use Rattle.root.specs.Root.{magnitude, signum}
use Rattle.base.specs.common.Pick.{pick}
use Rattle.base.specs.common.Binary64.{◌⊞◌, ◌⊟◌}
use Rattle.plane.specs.points.Plane.{at}
use Rattle.plane.specs.declared.points.Point.{Point}
use Rattle.plane.specs.declared.boxes.BoundingBox.{BoundingBox}
use Rattle.plane.specs.lines.Line.{one_if, line_of}
use Rattle.plane.specs.declared.lines.Crossing.{Crossing}
use Rattle.plane.specs.declared.lines.Crossing.TheVariants.{None, One, Two}

-- the two points in the order of the ray, those that lie behind its start left out
unfoldable pub order_pick : Bool → Bool → Bool → Float → Float → Float → Float → Crossing
order_pick a b near x y u v =
    pick a (λ _. pick b (λ _. pick near (λ _. Two u v x y) (λ _. Two x y u v)) (λ _. One x y)) (λ _. pick b (λ _. One u v) (λ _. None))

unfoldable pub order_by : Float → Float → Float → Float → Float → Float → Float → Crossing
order_by d da db x y u v = order_pick (eq (signum d) (signum da)) (eq (signum d) (signum db)) (lt (magnitude db) (magnitude da)) x y u v

unfoldable pub order_one : Point → Float → Float → Crossing
order_one dir x y = one_if (eq (signum dir.x) (signum x) && eq (signum dir.y) (signum y)) x y

unfoldable pub either_of : Bool → Crossing → Crossing → Crossing
either_of t a b = pick t (λ _. a) (λ _. b)

unfoldable pub order_two : Point → Point → Float → Float → Float → Float → Crossing
order_two p dir x y u v =
    either_of (lt (magnitude dir.y) (magnitude dir.x))
    (order_by dir.x (x ⊟ p.x) (u ⊟ p.x) x y u v)
    (order_by dir.y (y ⊟ p.y) (v ⊟ p.y) x y u v)

abbrev pub order_of : Point → Point → Crossing → Crossing
order_of p dir None = None
order_of p dir (One x y) = order_one dir x y
order_of p dir (Two x y u v) = order_two p dir x y u v

unfoldable pub ray_of : BoundingBox → Point → Point → Crossing
ray_of b p dir = order_of p dir (line_of b p (at (p.x ⊞ dir.x) (p.y ⊞ dir.y)))
