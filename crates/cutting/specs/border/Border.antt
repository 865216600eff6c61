-- Rule 25: the border turns exactly once, the right way. The corners at infinity of the hull's half-edges in order: how often the edge from one to the next comes in over the upper end of
-- the left side, and how often it goes out there, by the signs that the cutting itself computes. Definitions only.
use Rattle.std.specs.Prelude.{Bool, not, ◌||◌, List, ℕ, zero, suc, ◌+◌, ◌/◌, eqb, Float, length, get_or}
use Rattle.std.specs.Float.Ieee.{lt}
use Rattle.base.specs.common.Binary64 as B
use Rattle.base.specs.common.Binary64.{◌⊟◌}
use Rattle.base.specs.common.Pick.{pick}
use Rattle.ring_area.specs.lowest.Lowest.{any_below}
use Rattle.plane.specs.points.Plane.{at}
use Rattle.plane.specs.points.Flat.{point_at}
use Rattle.plane.specs.declared.points.Point.{Point}
use Rattle.plane.specs.declared.boxes.BoundingBox.{BoundingBox}
use Rattle.mesh.specs.Mesh.{start_of, end_of}
use Rattle.cutting.specs.cuts.Step.{passed_by}
use Rattle.cutting.specs.corner.Corner.{within_of, far_at}
use Rattle.cutting.specs.declared.corner.SideName.TheVariants.{Left}
use Rattle.cutting.specs.declared.corner.Corner.{Corner}
use Rattle.cutting.specs.meet.Crossing.{upward_of}
use Rattle.cutting.specs.declared.border.Turns.{Turns}

abbrev pub refused_border : ℕ
refused_border = 25

-- the direction outward, to the right of the way from a to z where y points down
unfoldable pub normal_of : Point → Point → Point
normal_of a z = at (a.y ⊟ z.y) (z.x ⊟ a.x)

abbrev pub toward_of : List Float → List ℕ → ℕ → Point
toward_of sites tri o = normal_of (point_at sites (start_of tri o)) (point_at sites (end_of tri o))

-- the end at infinity of half-edge o: outward, on the line from the center of its triangle's circle
abbrev pub hull_end : List Float → List ℕ → List Float → ℕ → Corner
hull_end sites tri centers o = far_at (point_at centers (o / 3)) (toward_of sites tri o)

-- a direction at all: two hull neighbours at one place have none
unfoldable pub directed : Point → Bool
directed d = lt d.x B.zero || (lt d.y B.zero || (lt B.zero d.x || lt B.zero d.y))

-- the half-edge on the hull that ends at place i, by the leftmost table
abbrev pub arrives_at : List ℕ → List ℕ → ℕ → ℕ
arrives_at table hull i = get_or table (get_or hull i 0) 0

unfoldable pub undirected_at : List Float → List ℕ → List ℕ → List ℕ → ℕ → Bool
undirected_at sites tri hull table i = not (directed (toward_of sites tri (arrives_at table hull i)))

-- ---- the turns over the edge at infinity from p to q, and over those of the first places of the hull
unfoldable pub turned_by : BoundingBox → Turns → Corner → Corner → Turns
turned_by b t p q = record {
  comes = t.comes + passed_by (within_of b Left q) (within_of b Left p) (upward_of p q);
  goes = t.goes + passed_by (within_of b Left p) (within_of b Left q) (upward_of p q);
}

unfoldable pub turns_after : BoundingBox → List Float → List ℕ → List ℕ → List ℕ → List Float → Turns → ℕ → Turns
turns_after b sites tri hull table centers t i =
    let o : ℕ = arrives_at table hull i in
    turned_by b t (hull_end sites tri centers o) (hull_end sites tri centers (get_or table (start_of tri o) 0))

unfoldable pub turns_to : BoundingBox → List Float → List ℕ → List ℕ → List ℕ → List Float → ℕ → Turns
turns_to b sites tri hull table centers zero = record { comes = 0; goes = 0 }
turns_to b sites tri hull table centers (suc i) = turns_after b sites tri hull table centers (turns_to b sites tri hull table centers i) i

-- ---- the number: 0 where it turns once, else 25
unfoldable pub once_of : Turns → ℕ
once_of t = pick (eqb t.comes (t.goes + 1)) (λ _. 0) (λ _. refused_border)

unfoldable pub border_number : BoundingBox → List Float → List ℕ → List ℕ → List ℕ → List Float → ℕ
border_number b sites tri hull table centers =
    pick (any_below (undirected_at sites tri hull table) (length hull)) (λ _. refused_border) (λ _. once_of (turns_to b sites tri hull table centers (length hull)))
