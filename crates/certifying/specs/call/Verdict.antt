-- The verdict of a certificate: the first of five faults, with what it names; and its numbers, which are given here and nowhere else. Definitions only.
use Rattle.std.specs.Prelude.{true, List, [], ℕ, ◌+◌, ◌/◌, ltb, Float, Result, Ok, Err, length, get_or}
use Rattle.std.specs.Float.Ieee.{lt}
use Rattle.base.specs.common.Binary64.{◌⊠◌}
use Rattle.base.specs.common.Pick.{pick}
use Rattle.base.specs.numbers.Numbers.{EMPTY}
use Rattle.ring_area.specs.lowest.Lowest.{lowest, any_below}
use Rattle.root.specs.Root.{magnitude}
use Rattle.plane.specs.points.Flat.{point_at}
use Rattle.plane.specs.declared.boxes.BoundingBox.{BoundingBox}
use Rattle.walks.specs.shared.Cells.{cell_of}
use Rattle.auditing.specs.corners.Outside.{site_outside, entry_outside}
use Rattle.auditing.specs.nearer.Nearer.{tolerance_of, beyond_at, corner_nearer, site_nearer}
use Rattle.auditing.specs.places.Places.{twin_at, has_twin}
use Rattle.certifying.specs.sides.Sides.{ends_of, side_count, surplus_at, left_once}
use Rattle.certifying.specs.declared.call.CertifyFault.{CertifyFault}
use Rattle.certifying.specs.declared.call.CertifyFault.TheVariants.{Outside, Surplus, Border, Nearer, Twin}

-- no fault, or the first one
abbrev pub CertifyVerdict : Type 0
CertifyVerdict = Result (Unit {0}) CertifyFault

-- ---- the reach: the largest magnitude of the four edges; and 2 ^ -bits of it
unfoldable pub larger_of : Float → Float → Float
larger_of x y = pick (lt x y) (λ _. y) (λ _. x)

unfoldable pub reach_of : BoundingBox → Float
reach_of b = larger_of (larger_of (magnitude b.left) (magnitude b.top)) (larger_of (magnitude b.right) (magnitude b.bottom))

unfoldable pub certify_far : BoundingBox → ℕ → Float
certify_far b bits = reach_of b ⊠ tolerance_of bits

-- ---- the fifth: the lowest site that has one before it at its place, and the first of these
abbrev pub certify_twin : List Float → ℕ → CertifyFault
certify_twin sites s = Twin s (lowest (twin_at sites s) s)

unfoldable pub twin_stage : List Float → CertifyVerdict
twin_stage sites = pick (any_below (has_twin sites) (length sites / 2)) (λ _. Err (certify_twin sites (lowest (has_twin sites) (length sites / 2)))) (λ _. Ok tt)

-- ---- the fourth: the lowest site, the first such corner of its ring, the first such other of all sites
unfoldable pub certify_nearer : Float → List Float → List Float → List ℕ → List ℕ → ℕ → CertifyFault
certify_nearer far sites v off ix s =
    let cell = cell_of off ix s in
    let e = get_or cell (lowest (corner_nearer far sites s [] true v cell) (length cell)) 0 in
    Nearer s e (lowest (beyond_at far (point_at v e) sites s [] true) (length sites / 2))

unfoldable pub near_stage : Float → List Float → List Float → List ℕ → List ℕ → CertifyVerdict
near_stage far sites v off ix =
    pick (any_below (site_nearer far sites [] [] v off ix) (length sites / 2))
    (λ _. Err (certify_nearer far sites v off ix (lowest (site_nearer far sites [] [] v off ix) (length sites / 2)))) (λ _. twin_stage sites)

-- ---- the third names nothing
unfoldable pub border_stage : BoundingBox → ℕ → List Float → List Float → List ℕ → List ℕ → CertifyVerdict
border_stage b bits sites v off ix = pick (left_once b v ix (ends_of off ix) (side_count off)) (λ _. near_stage (certify_far b bits) sites v off ix) (λ _. Err Border)

-- ---- the second: side e of all, which is of the first site whose ring ends after it
unfoldable pub site_of_side : List ℕ → ℕ → ℕ → ℕ
site_of_side off n e = lowest (λ s. ltb e (get_or off (s + 1) 0)) n

abbrev pub certify_side : List Float → List ℕ → List ℕ → ℕ → CertifyFault
certify_side sites off ix e = Surplus (site_of_side off (length sites / 2) e) (get_or ix e 0)

unfoldable pub side_stage : BoundingBox → ℕ → List Float → List Float → List ℕ → List ℕ → CertifyVerdict
side_stage b bits sites v off ix =
    pick (any_below (surplus_at b v ix (ends_of off ix) (side_count off)) (side_count off))
    (λ _. Err (certify_side sites off ix (lowest (surplus_at b v ix (ends_of off ix) (side_count off)) (side_count off)))) (λ _. border_stage b bits sites v off ix)

-- ---- the first: the lowest site, the first such corner of its ring
unfoldable pub certify_outside : BoundingBox → List Float → List ℕ → List ℕ → ℕ → CertifyFault
certify_outside b v off ix s = Outside s (entry_outside b v off ix s)

unfoldable pub certify_on : BoundingBox → ℕ → List Float → List Float → List ℕ → List ℕ → CertifyVerdict
certify_on b bits sites v off ix =
    pick (any_below (site_outside b v off ix) (length sites / 2)) (λ _. Err (certify_outside b v off ix (lowest (site_outside b v off ix) (length sites / 2))))
    (λ _. side_stage b bits sites v off ix)

-- ---- its numbers
abbrev pub certify_kind : CertifyVerdict → ℕ
certify_kind (Ok _) = 0
certify_kind (Err (Outside s e)) = 1
certify_kind (Err (Surplus s e)) = 2
certify_kind (Err Border) = 3
certify_kind (Err (Nearer s e o)) = 4
certify_kind (Err (Twin s o)) = 5

abbrev pub certify_site : CertifyVerdict → ℕ
certify_site (Ok _) = EMPTY
certify_site (Err (Outside s e)) = s
certify_site (Err (Surplus s e)) = s
certify_site (Err Border) = EMPTY
certify_site (Err (Nearer s e o)) = s
certify_site (Err (Twin s o)) = s

abbrev pub certify_vertex : CertifyVerdict → ℕ
certify_vertex (Ok _) = EMPTY
certify_vertex (Err (Outside s e)) = e
certify_vertex (Err (Surplus s e)) = e
certify_vertex (Err Border) = EMPTY
certify_vertex (Err (Nearer s e o)) = e
certify_vertex (Err (Twin s o)) = EMPTY

abbrev pub certify_other : CertifyVerdict → ℕ
certify_other (Ok _) = EMPTY
certify_other (Err (Outside s e)) = EMPTY
certify_other (Err (Surplus s e)) = EMPTY
certify_other (Err Border) = EMPTY
certify_other (Err (Nearer s e o)) = o
certify_other (Err (Twin s o)) = o
