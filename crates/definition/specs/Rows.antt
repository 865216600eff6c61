-- How the computed rows write a build's answer: floats by their bit patterns, entries by their marks, a refusal by its number.
use Rattle.std.specs.Prelude.{ℕ, List, [], ◌∷◌, map, Float}
use Rattle.std.specs.Int.Count.{count_trailing_zeros}
use Rattle.std.specs.Float.{binary64}
use Rattle.std.specs.Float.Ieee.{of_bits, add, sub, mul, div, lt, le, eq, neg, sum, round, units, odd, size, span, climb}
use Rattle.base.specs.common.Count.{same}
use Rattle.root.specs.Sqrt.{whole_root, nearest_root, root_of_units, sqrt_of}
use Rattle.plane.specs.points.Plane.{at, near_of, dist2_of}
use Rattle.plane.specs.points.Flat.{flat}
use Rattle.plane.specs.centers.Circumcenter.{center_of, ok_center}
use Rattle.plane.specs.boxes.Box.{made_of, corners_of}
use Rattle.plane.specs.sides.Sides.{inside_of, first_side, which_of}
use Rattle.plane.specs.rays.Ray.{order_pick, either_of, order_by, order_one, order_two, ray_of}
use Rattle.plane.specs.lines.Line.{one_if, two_if, first_held, side_hit, level_hit, upright_hit, settle_of, line_of}
use Rattle.vertices.specs.Add.{near_pt, find_near, add_vertex}
use Rattle.mesh.specs.Mesh.{next_of, chosen, table_to, turn_of, walk_of}
use Rattle.mesh.specs.Hull.{next_place}
use Rattle.walks.specs.neighbours.Neighbours.{last_end, starts_of, neighbours_of}
use Rattle.walks.specs.paths.Path.{dist_of, nearest_of, hop_of, path_end}
use Rattle.plane.specs.declared.boxes.BoundingBox.{BoundingBox}
use Rattle.definition.specs.declared.Fault.{Fault}
use Rattle.definition.specs.Fault.{Outcome, ok, refused, and_then, at_edge}
use Rattle.definition.specs.Cell.{Entry, entry, plain, crossing, wrapped, Taken, extension, firstCrossing, secondCrossing, steps_to, first_inside, turned, clip_from, clip_cell}
use Rattle.definition.specs.Cell.{wraps, with_corners, insert_edge, edge_crossing, clip_with, clip_edge, leave, enter_at, enter, cross_at, cross, clip_step, in_box, step_to}
use Rattle.definition.specs.Build.{Built, center_at, centers_from, owners_from, extended, extend_from, hull_ring, clip_into, clip_hull, clip_rest, all_entries, lost_from, clip_all, build}
use Rattle.definition.specs.Reused.{reused_of}

abbrev pub from_bits : ℕ → Float
from_bits n = of_bits binary64 n

abbrev pub floats : List ℕ → List Float
floats ns = map from_bits ns

-- center and size
abbrev pub row_box : ℕ → ℕ → ℕ → ℕ → BoundingBox
row_box x y w h = made_of (at (from_bits x) (from_bits y)) (from_bits w) (from_bits h)

-- a circumcenter, a crossing, a wrapped corner
abbrev pub t : ℕ → Entry
t v = entry plain v

abbrev pub x : ℕ → Entry
x v = entry crossing v

abbrev pub w : ℕ → Entry
w v = entry wrapped v

pub record Row : Type 0 where
  pub vertices : List Float
  pub cells : List (List Entry)
  pub owners : List ℕ
  pub lost : ℕ
  -- points taken again: extensions, first and second crossings
  pub again : List ℕ

abbrev again_in : List Taken → List ℕ
again_in ts = reused_of extension ts ∷ reused_of firstCrossing ts ∷ reused_of secondCrossing ts ∷ []

-- a build's answer, or its fault; where it unfolds, so does everything that a build computes by
unfoldable pub row_of : Outcome Fault Built → Outcome Fault Row
unfolding count_trailing_zeros of_bits add sub mul div lt le eq neg sum round units odd size span climb same whole_root
    nearest_root root_of_units sqrt_of near_of dist2_of center_of flat ok_center made_of corners_of inside_of first_side
    which_of one_if two_if first_held order_pick either_of side_hit level_hit upright_hit settle_of line_of
    order_by order_one order_two ray_of near_pt find_near add_vertex next_of chosen table_to turn_of walk_of next_place last_end
    starts_of neighbours_of dist_of nearest_of hop_of path_end and_then at_edge wraps with_corners insert_edge
    edge_crossing clip_with clip_edge leave enter_at enter cross_at cross clip_step in_box step_to steps_to
    first_inside turned clip_from clip_cell center_at centers_from owners_from extended extend_from hull_ring clip_into
    clip_hull clip_rest all_entries lost_from clip_all build
row_of (ok r) = ok (record { vertices = flat r.verts; cells = r.cells; owners = r.owners; lost = r.lost; again = again_in r.steps })
row_of (refused f) = refused f
