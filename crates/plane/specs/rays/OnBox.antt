-- Theorem: each crossing of a ray lies on the box, as that of a line does; and so do the points of the public answers.
use Rattle.std.specs.Prelude.{Bool, ◌&&◌, Float}
use Rattle.std.proofs.Math.Bool.{true, false}
use Prim.{tt}
use Rattle.std.specs.Float.Ieee.{lt, eq}
use Rattle.root.specs.Root.{magnitude, signum}
use Rattle.base.specs.common.Binary64.{◌⊞◌, ◌⊟◌}
use Rattle.plane.specs.points.Plane.{at}
use Rattle.plane.specs.declared.points.Point.{Point}
use Rattle.plane.specs.points.Rules.{ok_site}
use Rattle.plane.specs.declared.boxes.BoundingBox.{BoundingBox}
use Rattle.plane.specs.declared.given.Given.{Given}
use Rattle.plane.specs.lines.Line.{line_of}
use Rattle.plane.specs.lines.OnBox.{OnEdge, OnBox, one_own, line_own}
use Rattle.plane.specs.declared.lines.Crossing.{Crossing}
use Rattle.plane.specs.declared.lines.Crossing.TheVariants.{None, One, Two}
use Rattle.plane.specs.rays.Ray.{order_pick, either_of, order_by, order_one, order_two, order_of, ray_of}
use Rattle.plane.specs.rays.Rules.{met_by, line_answer, ray_answer, points_of}

module _ (b : BoundingBox) where
  -- ---- the ray: points of the line, some left out
  pick_own : (r s near : Bool) (x y u v : Float) → OnEdge b x y → OnEdge b u v → OnBox b (order_pick r s near x y u v)
  unfolding order_pick
  pick_own true true true x y u v h g = (g, h)
  pick_own true true false x y u v h g = (h, g)
  pick_own true false near x y u v h g = h
  pick_own false true near x y u v h g = g
  pick_own false false near x y u v h g = tt

  by_own : (d da db x y u v : Float) → OnEdge b x y → OnEdge b u v → OnBox b (order_by d da db x y u v)
  unfolding order_by
  by_own d da db x y u v h g = pick_own (eq (signum d) (signum da)) (eq (signum d) (signum db)) (lt (magnitude db) (magnitude da)) x y u v h g

  either_own : (t : Bool) (c d : Crossing) → OnBox b c → OnBox b d → OnBox b (either_of t c d)
  unfolding either_of
  either_own true c d h g = h
  either_own false c d h g = g

  order_own : (p dir : Point) (c : Crossing) → OnBox b c → OnBox b (order_of p dir c)
  unfolding order_one order_two
  order_own p dir None h = tt
  order_own p dir (One x y) h = one_own b (eq (signum dir.x) (signum x) && eq (signum dir.y) (signum y)) x y (λ _. h)
  order_own p dir (Two x y u v) h =
      either_own (lt (magnitude dir.y) (magnitude dir.x)) _ _
      (by_own dir.x (x ⊟ p.x) (u ⊟ p.x) x y u v h.0 h.1)
      (by_own dir.y (y ⊟ p.y) (v ⊟ p.y) x y u v h.0 h.1)

  pub ray_own : (p dir : Point) → OnBox b (ray_of b p dir)
  unfolding ray_of
  ray_own p dir = let q = at (p.x ⊞ dir.x) (p.y ⊞ dir.y) in order_own p dir (line_of b p q) (line_own b p q)

-- ---- with the refusals
met_own : (b : BoundingBox) (r s : Bool) (c : Crossing) → OnBox b c → OnBox b (points_of (met_by r s c))
unfolding met_by
met_own b true true c h = h
met_own b true false c h = tt
met_own b false s c h = tt

pub line_answer_own : (g : Given) (p q : Point) → OnBox g.bounds (points_of (line_answer g p q))
unfolding line_answer
line_answer_own g p q = met_own g.bounds g.sound (ok_site p && ok_site q) (line_of g.bounds p q) (line_own g.bounds p q)

pub ray_answer_own : (g : Given) (p dir : Point) → OnBox g.bounds (points_of (ray_answer g p dir))
unfolding ray_answer
ray_answer_own g p dir = met_own g.bounds g.sound (ok_site p && ok_site dir) (ray_of g.bounds p dir) (ray_own g.bounds p dir)
