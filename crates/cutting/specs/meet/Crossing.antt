-- Where an edge crosses a side: a bisector by its two sites, the lower number first, and never by the ends of the edge, which only bound the answer; so it is the same from both ends.
-- And which end of the left side the line at infinity passes. Definitions only.
use Rattle.std.specs.Prelude.{Bool, false, not, ◌&&◌, ◌||◌, List, ℕ, Float}
use Rattle.std.specs.Float.{binary64}
use Rattle.std.specs.Float.Ieee.{lt, le, eq, neg, of_bits}
use Rattle.base.specs.common.Binary64.{zero, two, ◌⊞◌, ◌⊟◌, ◌⊠◌, ◌⊘◌}
use Rattle.base.specs.common.Pick.{pick}
use Rattle.root.specs.Root.{magnitude}
use Rattle.plane.specs.points.Flat.{point_at}
use Rattle.plane.specs.declared.points.Point.{Point}
use Rattle.plane.specs.declared.boxes.BoundingBox.{BoundingBox}
use Rattle.cutting.specs.corner.Corner.{coordinate, within_of, line_end, upper_end, Crossings}
use Rattle.cutting.specs.declared.corner.SideName.{SideName}
use Rattle.cutting.specs.declared.corner.SideName.TheVariants.{Left, Top, Right, Bottom}
use Rattle.cutting.specs.declared.corner.Corner.{Corner}

-- the coordinate of a point, or of a direction, along a side, and across it
abbrev pub along_of : SideName → Point → Float
along_of Left p = p.y
along_of Top p = p.x
along_of Right p = p.y
along_of Bottom p = p.x

abbrev pub across_of : SideName → Point → Float
across_of Left p = p.x
across_of Top p = p.y
across_of Right p = p.x
across_of Bottom p = p.y

-- ---- how far a corner reaches along a side: at infinity without end, in its direction, or where that is across the side as its place does
abbrev pub endless : Float
endless = of_bits binary64 0x7ff0_0000_0000_0000

unfoldable pub reach_by : Bool → Float → Float → Float
reach_by f d x = pick f (λ _. pick (lt zero d) (λ _. endless) (λ _. pick (lt d zero) (λ _. neg endless) (λ _. x))) (λ _. x)

abbrev pub reach_of : SideName → Corner → Float
reach_of s p = reach_by p.far (along_of s p.toward) (along_of s p.place)

-- t, moved into what lies between two numbers, given in any order; a NaN is moved to the lower one
unfoldable pub clamp_of : Float → Float → Float → Float
clamp_of lo hi t = pick (le lo t) (λ _. pick (lt hi t) (λ _. hi) (λ _. t)) (λ _. lo)

unfoldable pub bounded_of : Float → Float → Float → Float
bounded_of a z t = pick (lt a z) (λ _. clamp_of a z t) (λ _. clamp_of z a t)

-- ---- a bisector
unfoldable pub middle_of : Float → Float → Float
middle_of a z = a ⊞ (z ⊟ a) ⊘ two

-- where it meets the line at c, of sites at u and v across that line, a and z along it
unfoldable pub slant_of : Float → Float → Float → Float → Float → Float
slant_of c u v a z = middle_of a z ⊟ (c ⊟ middle_of u v) ⊠ ((v ⊟ u) ⊘ (z ⊟ a))

-- a bisector that runs along the side meets it nowhere, or all along it: `flat` serves
unfoldable pub bisector_at : Float → SideName → Point → Point → Float → Float
bisector_at c s lower upper flat =
    pick (eq (along_of s upper ⊟ along_of s lower) zero) (λ _. flat) (λ _. slant_of c (across_of s lower) (across_of s upper) (along_of s lower) (along_of s upper))

-- the inner end's coordinate, or where that is at infinity the other end's
unfoldable pub flat_of : SideName → Corner → Corner → Float
flat_of s p q = pick p.far (λ _. along_of s q.place) (λ _. along_of s p.place)

-- how far along a side the bisector of two sites crosses it, from p within the side to q past it
unfoldable pub cross_from : BoundingBox → SideName → Point → Point → Corner → Corner → Float
cross_from b s lower upper p q = bounded_of (reach_of s p) (reach_of s q) (bisector_at (coordinate b s) s lower upper (flat_of s p q))

-- and from either; an edge with both ends on one side of it does not cross
unfoldable pub cross_by : BoundingBox → SideName → Point → Point → Corner → Corner → Float
cross_by b s lower upper p q =
    pick (within_of b s p) (λ _. pick (within_of b s q) (λ _. zero) (λ _. cross_from b s lower upper p q))
    (λ _. pick (within_of b s q) (λ _. cross_from b s lower upper q p) (λ _. zero))

-- of sites i and j of a list, the lower number first
abbrev pub crossed_at : BoundingBox → List Float → SideName → ℕ → ℕ → Corner → Corner → Float
crossed_at b sites s i j p q = cross_by b s (point_at sites i) (point_at sites j) p q

-- ---- the line at infinity, from direction d to direction e, one to the left and one to the right: whether it passes the lower end of an upright line, which the line between d and e
-- tells. Where both run down or both up no product is needed
unfoldable pub between_down : Point → Point → Bool
between_down d e =
    pick (le zero d.y && le zero e.y) (λ _. lt zero d.y || lt zero e.y) (λ _. lt zero (magnitude e.x ⊠ d.y ⊞ magnitude d.x ⊠ e.y))

unfoldable pub passes_down : Point → Point → Bool
passes_down d e = pick (eq d.x zero) (λ _. lt zero d.y) (λ _. pick (eq e.x zero) (λ _. lt zero e.y) (λ _. between_down d e))

abbrev pub upward_of : Corner → Corner → Bool
upward_of p q = not (passes_down p.toward q.toward)

-- where the line at infinity crosses a side: the left side, where it is passed above, at its upper end
abbrev pub up_at : SideName → Bool → Bool
up_at Left u = u
up_at Top u = false
up_at Right u = false
up_at Bottom u = false

unfoldable pub line_meet : BoundingBox → SideName → Bool → Corner
line_meet b s u = pick (up_at s u) (λ _. upper_end b) (λ _. line_end b s)

-- ---- the crossings of the library
abbrev pub crossings_of : BoundingBox → List Float → Crossings
crossings_of b sites = record { cross = crossed_at b sites; upward = upward_of }
