-- Rows: the theorem on the profile is not empty: "square" at (±1, ±1) meets all that it asks, and the path from site 3 to (-1, 1) ends at a nearest site.
use Rattle.std.specs.Prelude.{refl, true, false, List, [], ◌∷◌, ℕ, ◌/◌, ◌<◌, ℤ, pos, negsuc, length}
use Rattle.std.proofs.Common.{sym, arith, lit<, below_none, below_more}
use Rattle.std.specs.Float.Ieee.{of_bits, of_int, neg, le, lt, eq}
use Rattle.base.specs.common.Binary64.{one, minus_one}
use Rattle.plane.specs.points.Plane.{at}
use Rattle.plane.specs.points.Rules.{ok_site, ok_coord}
use Rattle.plane.specs.points.Sites.{KeptAt}
use Rattle.mesh.specs.Mesh.{next_of, leftmost_of}
use Rattle.mesh.specs.Hull.{next_place}
use Rattle.mesh.specs.Accepted.{mesh, Accepted}
use Rattle.mesh.specs.Square.{tri, he, hull, square_accepted}
use Rattle.walks.specs.paths.Path.{whole_path, last_of}
use Rattle.grid.specs.Plane.{Within, WithinAt}
use Rattle.grid.specs.laws.Machine.{differ}
use Rattle.grid.specs.scan.Judged.{TurnAt, CircleAt}
use Rattle.grid.specs.border.ShortForm.{prior_place, CornerAt, LoneAt}
use Rattle.grid.specs.floats.Sites.{floats_of}
use Rattle.nearest_laws.specs.Admitted.{AdmittedPoint}
use Rattle.nearest_laws.specs.Profile.{NearestSite, ends_nearest}
use Rattle.nearest_laws.specs.Square.{four, six}

abbrev pub grid : List ℤ
grid = negsuc 0 ∷ negsuc 0 ∷ negsuc 0 ∷ pos 1 ∷ pos 1 ∷ pos 1 ∷ pos 1 ∷ negsuc 0 ∷ []

accepted : Accepted (mesh (floats_of grid) tri he hull)
unfolding of_int ok_site ok_coord le lt eq of_bits
accepted = record {
  counts = square_accepted.counts;
  coordinates = four (KeptAt (floats_of grid)) refl refl refl refl;
  topology = square_accepted.topology;
}

within : (s : ℕ) → s < length grid / 2 → WithinAt grid s
within =
    let low : Within (negsuc 0) = record { above = refl; below = refl } in
    let high : Within (pos 1) = record { above = refl; below = refl } in
    four (WithinAt grid) (low, low) (low, high) (high, high) (high, low)

turns : (t : ℕ) → t < length tri / 3 → TurnAt grid tri t
turns = below_more (TurnAt grid tri) 1 (below_more (TurnAt grid tri) 0 (below_none _) refl) refl

circles : (e : ℕ) → e < length tri → CircleAt grid tri he e
unfolding next_of
circles = six (CircleAt grid tri he) (λ n. absurd (n refl)) (λ n. absurd (n refl)) (λ _. refl) (λ _. refl) (λ n. absurd (n refl)) (λ n. absurd (n refl))

corners : (i : ℕ) → i < length hull → CornerAt grid hull i
unfolding next_place prior_place
corners = four (CornerAt grid hull) (λ _. refl) (λ _. refl) (λ _. refl) (λ _. refl)

lone : (i : ℕ) → i < length hull → LoneAt grid hull i
unfolding next_place prior_place
lone =
    four (LoneAt grid hull) (λ s j l. absurd (omega arith)) (λ s. absurd (differ s.0)) (λ s. absurd (differ s.0)) (λ s. absurd (differ (sym s.1)))

pub destination : AdmittedPoint 1 (at minus_one one)
unfolding of_bits neg
destination = record {
  x = record { minus = true; units = 2; value = (refl, refl); near = lit< tt };
  y = record { minus = false; units = 2; value = (refl, refl); near = lit< tt };
}

pub corner_on_grid : NearestSite grid tri destination (last_of (whole_path (floats_of grid) tri he (leftmost_of tri he 4) (at minus_one one) 3))
corner_on_grid = ends_nearest grid accepted within turns circles corners lone (at minus_one one) destination 3 (5, omega arith, refl)
