-- Rows: the checked examples, as rows under one claim, on "square" where a mesh is meant: what the definitions that the public calls are held to give, and for
-- the two lone points that of order_points_on_ray, where a lone point is judged. By computation.
use Rattle.std.specs.Prelude.{◌≡◌, refl, [], ◌∷◌, Float, get_or}
use Rattle.std.proofs.Common.{◌∙◌}
use Rattle.std.specs.Float.{binary64}
use Rattle.std.specs.Float.Ieee.{of_bits, neg, add, sub, mul, div, lt, le, eq}
use Rattle.std.specs.Float.Ieee.Bits.{of_bits-fits}
use Rattle.base.specs.common.Binary64.{zero, one, minus_one, two}
use Rattle.root.specs.Root.{Root}
use Rattle.root.specs.SqrtIsRoot.{root_is_sqrt, least_root}
use Rattle.plane.specs.points.Flat.{point_at}
use Rattle.plane.specs.points.Plane.{at, near_of, dist2_of}
use Rattle.plane.specs.centers.Circumcenter.{center_of}
use Rattle.plane.specs.boxes.Box.{made_of}
use Rattle.plane.specs.sides.Sides.{first_side, which_of}
use Rattle.plane.specs.declared.boxes.BoundingBox.{BoundingBox}
use Rattle.plane.specs.rays.Ray.{order_of}
use Rattle.plane.specs.rays.Rows as crossings
use Rattle.plane.specs.declared.lines.Crossing.TheVariants.{None, One}
use Rattle.mesh.specs.Mesh.{next_of, chosen, table_to, turn_of, walk_of, whole_of}
use Rattle.mesh.specs.Square.{sites, tri, he, table}
use Rattle.mesh.specs.Square as mesh
use Rattle.walks.specs.neighbours.Neighbours.{last_end, starts_of, neighbours_of}
use Rattle.walks.specs.paths.Path.{dist_of, nearest_of, hop_of, path_of, whole_path}

abbrev pub box : BoundingBox
box = made_of (at zero zero) two two

abbrev pub five : Float
five = of_bits binary64 0x4014_0000_0000_0000

pub record Examples : Type 0 where
  pub leftmost : table ≡ 5 ∷ 0 ∷ 1 ∷ 4 ∷ []
  pub walk_of_0 : whole_of he (get_or table 0 0) ≡ 5 ∷ 2 ∷ []
  pub neighbours_of_0 : neighbours_of tri he table 0 ≡ 3 ∷ 2 ∷ 1 ∷ []
  pub path_from_0 : whole_path sites tri he table (at minus_one one) 0 ≡ 0 ∷ 1 ∷ []
  pub path_that_stays : whole_path sites tri he table (at zero zero) 0 ≡ 0 ∷ []
  pub path_from_3 : whole_path sites tri he table (at minus_one one) 3 ≡ 3 ∷ 2 ∷ 1 ∷ []
  pub top_side : which_of box (at minus_one minus_one) ≡ 0
  pub bottom_side : which_of box (at one one) ≡ 2
  pub right_side : which_of box (at one zero) ≡ 3
  pub left_side : which_of box (at minus_one zero) ≡ 1
  -- 4 is none
  pub no_side : which_of box (at zero zero) ≡ 4
  pub circumcenter : center_of (point_at sites (get_or tri 0 0)) (point_at sites (get_or tri 1 0)) (point_at sites (get_or tri 2 0)) ≡ at zero zero
  -- of 2^-1074 it is 2^-537
  pub least_root : (r : Float) → Root (of_bits binary64 1) r → r ≡ of_bits binary64 0x1E60_0000_0000_0000
  pub lone_behind : order_of (at five five) (at minus_one minus_one) (One one one) ≡ None
  pub lone_ahead : order_of (at five five) (at one one) (One one one) ≡ One one one

pub examples : Examples
unfolding next_of chosen table_to turn_of walk_of last_end starts_of neighbours_of dist_of nearest_of hop_of path_of dist2_of made_of which_of first_side near_of center_of of_bits neg add sub mul div lt le eq
examples =
    let plane = crossings.rows in
    record {
      leftmost = (mesh.rows).0;
      walk_of_0 = (mesh.rows).1;
      neighbours_of_0 = refl;
      path_from_0 = refl;
      path_that_stays = refl;
      path_from_3 = refl;
      top_side = plane.top_side;
      bottom_side = plane.bottom_side;
      right_side = plane.right_side;
      left_side = plane.left_side;
      no_side = plane.no_side;
      circumcenter = refl;
      least_root = λ r h. root_is_sqrt (of_bits binary64 1) r (of_bits-fits binary64 1) h ∙ least_root;
      lone_behind = plane.lone_behind;
      lone_ahead = plane.lone_ahead;
    }
