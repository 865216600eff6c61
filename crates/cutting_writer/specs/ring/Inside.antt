-- A ring that is bounded and lies wholly in the box, and its circumcenters as the pen takes them. Definitions only.
use Rattle.std.specs.Prelude.{◌≡◌, true, false, List, [], ◌∷◌, ℕ, ◌/◌, ◌<◌, Float, length}
use Rattle.plane.specs.points.Flat.{point_at}
use Rattle.plane.specs.sides.Sides.{inside_of}
use Rattle.plane.specs.declared.boxes.BoundingBox.{BoundingBox}
use Rattle.mesh.specs.Mesh.{next_of, whole_of}
use Rattle.cutting.specs.rings.Names.{on_hull}
use Rattle.cutting.specs.pen.Pen.{Page, numbered_on}
use Rattle.cutting_writer.specs.site.Ring.{last_or}

-- the circumcenters of the triangles of some half-edges are in the box
abbrev pub CentersInside : BoundingBox → List Float → List ℕ → Type 0
CentersInside b centers [] = Unit {0}
CentersInside b centers (e ∷ r) = (inside_of b (point_at centers (e / 3)) ≡ true) × CentersInside b centers r

-- the ring whose walk begins at t has no end at infinity, and its corners are in the box
pub record RingInside (b : BoundingBox) (he : List ℕ) (centers : List Float) (t : ℕ) : Type 0 where
  pub there : t < length he
  pub begins : on_hull he t ≡ false
  pub corners : CentersInside b centers (whole_of he t)
  pub ends : on_hull he (next_of (last_or t (whole_of he t))) ≡ false

-- the circumcenter of half-edge e goes on with the ring
abbrev pub out_on : Page → ℕ → Page
out_on g e = numbered_on g (point_at g.vertices (e / 3)) (e / 3)
