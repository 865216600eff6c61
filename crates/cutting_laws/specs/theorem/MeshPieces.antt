-- The pieces of all sites of a mesh by cutting, as places: the ring of each site, cut by the four sides with the library's crossings, and written. Definitions only.
use Rattle.std.specs.Prelude.{cond, List, [], ◌∷◌, map, ℕ, zero, suc, ◌+◌, Float, get_or}
use Rattle.plane.specs.points.Flat.{point_at}
use Rattle.plane.specs.declared.points.Point.{Point}
use Rattle.ring_area.specs.Steps.{gains_of, losses_of}
use Rattle.plane.specs.declared.boxes.BoundingBox.{BoundingBox}
use Rattle.mesh.specs.Mesh.{pair_of, whole_of, leftmost_of}
use Rattle.cutting.specs.cuts.Rings.{At, RingEdge}
use Rattle.cutting.specs.cuts.Borders.{left_of}
use Rattle.cutting.specs.cuts.Named.{EdgeName, out, ray, named_ring}
use Rattle.cutting.specs.rings.Names.{on_hull, edge_of, ring_names}
use Rattle.cutting.specs.corner.Corner.{circle_center}
use Rattle.cutting.specs.declared.corner.Corner.{Corner}
use Rattle.cutting.specs.declared.corner.Carrier.{Carrier}
use Rattle.cutting.specs.declared.corner.Carrier.TheVariants.{Infinity}
use Rattle.cutting.specs.sides.Exact.{fences, written_of}
use Rattle.cutting.specs.meet.Crossing.{crossings_of}
use Rattle.cutting.specs.whole.Whole.{bisector_of}
use Rattle.cutting.specs.border.Border.{hull_end}

-- the numbers from i on, k of them
abbrev pub numbers_from : ℕ → ℕ → List ℕ
numbers_from i zero = []
numbers_from i (suc k) = i ∷ numbers_from (suc i) k

module _ (sites : List Float) (tri he : List ℕ) (n : ℕ) (centers : List Float) where
  -- what the names of a ring's edges stand for
  abbrev pub mesh_edge : EdgeName → RingEdge Corner Carrier
  mesh_edge = edge_of tri he (λ s. get_or (leftmost_of tri he n) s 0) (λ t. circle_center (point_at centers t) t) (hull_end sites tri centers) (bisector_of tri) Infinity

  -- the ring of a site
  abbrev pub mesh_ring : ℕ → List (At Corner Carrier)
  mesh_ring s = named_ring mesh_edge (ring_names he (get_or (leftmost_of tri he n) s 0) (whole_of he (get_or (leftmost_of tri he n) s 0)))

  -- its piece, as it is written
  abbrev pub piece_places : BoundingBox → ℕ → List Point
  piece_places b s = written_of b (crossings_of b sites) (mesh_ring s)

  abbrev pub all_places : BoundingBox → List (List Point)
  all_places b = map (piece_places b) (numbers_from 0 n)

  -- what the four sides leave of an edge
  abbrev pub edge_part : BoundingBox → EdgeName → List (RingEdge Corner Carrier)
  edge_part b e =
      let m = mesh_edge e in
      left_of (fences b (crossings_of b sites)) m.on m.from m.to

-- the edge across: of the pair, or on the hull the ray of the other piece
abbrev pub across_from : List ℕ → ℕ → EdgeName
across_from he o = cond (on_hull he o) (ray o) (out (pair_of he o))

-- the exact sums over all pieces
abbrev pub all_gains : List (List Point) → ℕ
all_gains [] = 0
all_gains (p ∷ r) = gains_of p + all_gains r

abbrev pub all_losses : List (List Point) → ℕ
all_losses [] = 0
all_losses (p ∷ r) = losses_of p + all_losses r
