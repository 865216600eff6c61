-- Rows: "square" (docs/use/RULES.md), from its 172 bytes to its listing: the bytes are the form of its mesh, and the text of that mesh's build is the one there. By computation.
use Rattle.std.specs.Prelude.{◌≡◌, refl, List, ℕ, length}
use Rattle.mesh.specs.Mesh.{next_of, chosen, table_to, turn_of, walk_of}
use Rattle.definition.specs.Fault.{Outcome, ok, refused, and_then, at_edge}
use Rattle.std.specs.Int.Count.{count_trailing_zeros}
use Rattle.std.specs.Float.Ieee.{of_bits, add, sub, mul, div, lt, le, eq, neg, sum, round, units, odd, size, span, climb}
use Rattle.base.specs.common.Count.{same}
use Rattle.root.specs.Sqrt.{whole_root, nearest_root, root_of_units, sqrt_of}
use Rattle.plane.specs.points.Plane.{at, near_of, dist2_of}
use Rattle.plane.specs.centers.Circumcenter.{center_of, ok_center}
use Rattle.plane.specs.boxes.Box.{made_of, corners_of}
use Rattle.plane.specs.sides.Sides.{inside_of, first_side, which_of}
use Rattle.plane.specs.rays.Ray.{order_pick, either_of, order_by, order_one, order_two, ray_of}
use Rattle.plane.specs.lines.Line.{one_if, two_if, first_held, side_hit, level_hit, upright_hit, settle_of, line_of}
use Rattle.vertices.specs.Add.{near_pt, find_near, add_vertex}
use Rattle.mesh.specs.Hull.{next_place}
use Rattle.walks.specs.neighbours.Neighbours.{last_end, starts_of, neighbours_of}
use Rattle.walks.specs.paths.Path.{dist_of, nearest_of, hop_of, path_end}
use Rattle.definition.specs.Cell.{wraps, with_corners, insert_edge, edge_crossing, clip_with, clip_edge, leave, enter_at, enter, cross_at, cross}
use Rattle.definition.specs.Cell.{clip_step, in_box, step_to, steps_to, first_inside, turned, clip_from, clip_cell}
use Rattle.definition.specs.Build.{Built, center_at, centers_from, owners_from, extended, extend_from, hull_ring, clip_into, clip_hull, clip_rest, all_entries, lost_from, clip_all, build}
use Rattle.definition.specs.declared.Fault.{Fault}
use Rattle.form.specs.Form.{form_of, float}
use Rattle.form.specs.Square.{square, square_bytes, two_is}
use Rattle.printing.specs.parts.Text.{ascii, digits, decimal}
use Rattle.printing.specs.parts.Labelled.{entries, labelled}
use Rattle.cells.specs.listing.Listing.{counts, cell_line, corners, reused_line}
use Rattle.printing.specs.OfForm.{mesh_of}
use Rattle.cells.specs.Printed.{lines_of, listing_of}

-- the text of a build of n sites and T triangles, where it is not refused
abbrev pub texted : ℕ → ℕ → Outcome Fault Built → Outcome Fault (List ℕ)
texted n T (ok b) = ok (listing_of n T b)
texted n T (refused f) = refused f

pub rows :
    (length square_bytes ≡ 172)
    × (form_of square ≡ square_bytes)
    × (texted 4 2 (build (mesh_of square) (made_of (at (float 0) (float 0)) (float two_is) (float two_is)))
    ≡ ok (ascii "sites 4 triangles 2 vertices 14\ncell 0: 1 10 2 11 0\ncell 1: 0 11 3 12\ncell 2: 0 12 4 13 1\ncell 3: 1 13 5 10\ncorners 0 1 2 3 lost 0\nreused 0 4 0\n"))
unfolding count_trailing_zeros of_bits add sub mul div lt le eq neg sum round units odd size span climb same whole_root nearest_root root_of_units sqrt_of near_of
    dist2_of center_of ok_center made_of corners_of inside_of first_side which_of one_if two_if first_held order_pick either_of side_hit level_hit
    upright_hit settle_of line_of order_by order_one order_two ray_of near_pt find_near add_vertex next_of chosen table_to turn_of walk_of next_place last_end starts_of
    neighbours_of dist_of nearest_of hop_of path_end and_then at_edge wraps with_corners insert_edge edge_crossing clip_with clip_edge leave enter_at enter
    cross_at cross clip_step in_box step_to steps_to first_inside turned clip_from clip_cell center_at centers_from owners_from extended extend_from hull_ring
    clip_into clip_hull clip_rest all_entries lost_from clip_all build form_of square_bytes lines_of digits decimal entries labelled counts cell_line
    corners reused_line
rows = (refl, refl, refl)
