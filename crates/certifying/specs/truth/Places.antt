-- Floats as whole numbers without a sign, so that they can be held against places between them: a value in units of 2 ^ -1074 / c, moved up by 2 ^ 400, which no coordinate of a corner
-- or a site passes. Any whole c above 0 may be taken: the places are dense. Definitions only.
use Rattle.std.specs.Prelude.{List, [], ◌∷◌, ℕ, zero, suc, ◌+◌, ◌-◌, ◌*◌, ◌/◌, ◌^◌, Float, length}
use Rattle.plane.specs.points.Flat.{point_at}
use Rattle.root.specs.Root.{units}
use Rattle.plane.specs.declared.points.Point.{Point}
use Rattle.plane.specs.declared.boxes.BoundingBox.{BoundingBox}
use Rattle.walks.specs.shared.Cells.{cell_of}
use Rattle.certifying.specs.call.Verdict.{reach_of}
use Rattle.certifying.specs.cover.Sums.{WholePlace}
use Rattle.audit_truth.specs.Exact.{plus_units, minus_units, along_axes}

-- how far all is moved up, in units
abbrev pub lift : ℕ
lift = 2 ^ 400 * 2 ^ 1074

unfoldable pub raised_units : Float → ℕ
raised_units x = plus_units x + lift - minus_units x

abbrev pub lifted_place : ℕ → Point → WholePlace
lifted_place c p = record { x = c * raised_units p.x; y = c * raised_units p.y }

-- vertex e
abbrev pub vertex_place : ℕ → List Float → ℕ → WholePlace
vertex_place c v e = lifted_place c (point_at v e)

-- the corners of a ring; the rings of n sites from s on
unfoldable pub corner_places : (ℕ → WholePlace) → List ℕ → List WholePlace
corner_places at [] = []
corner_places at (e ∷ r) = at e ∷ corner_places at r

unfoldable pub rings_from : (ℕ → WholePlace) → List ℕ → List ℕ → ℕ → ℕ → List (List WholePlace)
rings_from at off ix s zero = []
rings_from at off ix s (suc n) = corner_places at (cell_of off ix s) ∷ rings_from at off ix (suc s) n

-- an edge of the box, the piece of s, all pieces, and site s
abbrev pub edge_place : ℕ → Float → ℕ
edge_place c x = c * raised_units x

abbrev pub ring_places : ℕ → List Float → List ℕ → List ℕ → ℕ → List WholePlace
ring_places c v off ix s = corner_places (vertex_place c v) (cell_of off ix s)

abbrev pub all_pieces : ℕ → List Float → List ℕ → List ℕ → List (List WholePlace)
all_pieces c v off ix = rings_from (vertex_place c v) off ix 0 (length off - 1)

abbrev pub site_place : ℕ → List Float → ℕ → WholePlace
site_place c sites s = lifted_place c (point_at sites s)

-- what |p - s|^2 may be over |p - o|^2, in units of 2 ^ -2148, where w is the reach and r is at least that and the distance along an axis from a corner to s and to o:
-- (2 ^ -bits w + 2 ^ -49 r) (|ox - sx| + |oy - sy|), and 2 ^ -1073 (1 + |ox - sx| + |oy - sy|) for what underflows
abbrev pub slack_of : ℕ → ℕ → ℕ → Point → Point → ℕ
slack_of w bits r s o = 2 * (along_axes o s + 2 ^ 1074) + (2 ^ 49 * w + 2 ^ bits * r) * along_axes o s / (2 ^ 49 * 2 ^ bits)

-- the same in units of 2 ^ -2148 / c / c, of a certificate with the tolerance 2 ^ -bits in the box b
abbrev pub bound_of : ℕ → BoundingBox → ℕ → ℕ → List Float → ℕ → ℕ → ℕ
bound_of c b bits r sites s o = c * c * slack_of (units (reach_of b)) bits r (point_at sites s) (point_at sites o)
