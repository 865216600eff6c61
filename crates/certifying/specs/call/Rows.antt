-- Rows: the four pieces of a square, and one fault of each kind: a box that is too small; a corner left out; all rings turned; two sites exchanged; two sites at one place.
use Rattle.std.specs.Prelude.{◌≡◌, refl, List, [], ◌∷◌, ℕ, Float, Ok, Err}
use Rattle.std.specs.Float.{binary64}
use Rattle.std.specs.Float.Ieee.{of_bits, eq, lt, le, add, sub, mul}
use Rattle.base.specs.common.Binary64 as B
use Rattle.ring_area.specs.lowest.Lowest.{lowest_from}
use Rattle.plane.specs.points.Plane.{at}
use Rattle.plane.specs.declared.boxes.BoundingBox.{BoundingBox}
use Rattle.plane.specs.sides.Sides.{inside_of}
use Rattle.walks.specs.shared.Cells.{cell_of}
use Rattle.auditing.specs.corners.Outside.{outside_at, cell_outside}
use Rattle.auditing.specs.nearer.Nearer.{tolerance_of, beyond, no_lists, other_at, held_count, beyond_at, nearer_at, corner_nearer, cell_nearer, site_nearer}
use Rattle.auditing.specs.places.Places.{same_of, twin_at, has_twin}
use Rattle.certifying.specs.sides.Sides.{ring_ends, ends_from, one_for, runs_at, along_of, more_of, surplus_of, leaves_of, left_once}
use Rattle.certifying.specs.call.Verdict.{larger_of, reach_of, certify_far, twin_stage, certify_nearer, near_stage, border_stage, site_of_side, side_stage, certify_outside, certify_on}
use Rattle.certifying.specs.declared.call.CertifyFault.TheVariants.{Outside, Surplus, Border, Nearer, Twin}

abbrev half : Float
half = of_bits binary64 0x3fe0_0000_0000_0000

abbrev more : Float
more = of_bits binary64 0x3ff8_0000_0000_0000

abbrev box_to : Float → BoundingBox
box_to r = record { center = at B.one B.one; left = B.zero; top = B.zero; right = r; bottom = B.two }

-- vertex 3 y + x is (x, y)
abbrev corners : List Float
corners =
    B.zero ∷ B.zero ∷ B.one ∷ B.zero ∷ B.two ∷ B.zero
    ∷ B.zero ∷ B.one ∷ B.one ∷ B.one ∷ B.two ∷ B.one
    ∷ B.zero ∷ B.two ∷ B.one ∷ B.two ∷ B.two ∷ B.two ∷ []

abbrev middles : List Float
middles = half ∷ half ∷ half ∷ more ∷ more ∷ more ∷ more ∷ half ∷ []

abbrev fours : List ℕ
fours = 0 ∷ 4 ∷ 8 ∷ 12 ∷ 16 ∷ []

abbrev squares : List ℕ
squares = 0 ∷ 3 ∷ 4 ∷ 1 ∷ 3 ∷ 6 ∷ 7 ∷ 4 ∷ 4 ∷ 7 ∷ 8 ∷ 5 ∷ 1 ∷ 4 ∷ 5 ∷ 2 ∷ []

pub record CertifyRows : Type 0 where
  pub certified : certify_on (box_to B.two) 32 middles corners fours squares ≡ Ok tt
  pub outside : certify_on (box_to B.one) 32 middles corners fours squares ≡ Err (Outside 2 8)
  pub corner_gone : certify_on (box_to B.two) 32 middles corners (0 ∷ 4 ∷ 8 ∷ 12 ∷ 15 ∷ []) squares ≡ Err (Surplus 3 5)
  pub turned_rings : certify_on (box_to B.two) 32 middles corners fours (1 ∷ 4 ∷ 3 ∷ 0 ∷ 4 ∷ 7 ∷ 6 ∷ 3 ∷ 5 ∷ 8 ∷ 7 ∷ 4 ∷ 2 ∷ 5 ∷ 4 ∷ 1 ∷ []) ≡ Err Border
  pub exchanged : certify_on (box_to B.two) 32 (more ∷ more ∷ half ∷ more ∷ half ∷ half ∷ more ∷ half ∷ []) corners fours squares ≡ Err (Nearer 0 0 1)
  pub one_place : certify_on (box_to B.two) 32 (half ∷ B.one ∷ half ∷ B.one ∷ more ∷ B.one ∷ more ∷ B.one ∷ []) corners fours squares ≡ Err (Twin 1 0)

pub rows : CertifyRows
unfolding of_bits eq lt le add sub mul lowest_from inside_of cell_of outside_at cell_outside tolerance_of beyond no_lists other_at held_count beyond_at nearer_at
    corner_nearer cell_nearer site_nearer same_of twin_at has_twin ring_ends ends_from one_for runs_at along_of more_of surplus_of leaves_of left_once larger_of reach_of
    certify_far twin_stage certify_nearer near_stage border_stage site_of_side side_stage certify_outside certify_on
rows = record { certified = refl; outside = refl; corner_gone = refl; turned_rings = refl; exchanged = refl; one_place = refl }
