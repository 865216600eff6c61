-- The verdict: the first of five faults, with what it names; and its numbers, which are given here and nowhere else. n sites; `box` is twice the box's area. Definitions only.
use Rattle.std.specs.Prelude.{Bool, ◌&&◌, List, ℕ, ◌/◌, Float, length, get_or, Result, Ok, Err}
use Rattle.base.specs.common.Pick.{pick}
use Rattle.base.specs.numbers.Numbers.{EMPTY}
use Rattle.ring_area.specs.lowest.Lowest.{lowest, any_below}
use Rattle.plane.specs.points.Flat.{point_at}
use Rattle.plane.specs.declared.boxes.BoundingBox.{BoundingBox}
use Rattle.walks.specs.shared.Cells.{cell_of}
use Rattle.auditing.specs.limit.Limit.{box_twice}
use Rattle.auditing.specs.rings.Fan.{site_folds}
use Rattle.auditing.specs.corners.Outside.{site_outside, entry_outside}
use Rattle.auditing.specs.nearer.Nearer.{far_of, no_lists, other_at, held_count, beyond_at, corner_nearer, site_nearer}
use Rattle.auditing.specs.total.Total.{total_whole}
use Rattle.auditing.specs.places.Places.{twin_at, has_twin}
use Rattle.auditing.specs.declared.AuditFault.{AuditFault}
use Rattle.auditing.specs.declared.AuditFault.TheVariants.{Ring, Outside, Nearer, Uncovered, Twin}

-- nothing, or a fault
abbrev pub AuditVerdict : Type 0
AuditVerdict = Result (Unit {0}) AuditFault

-- ---- the fifth: the lowest site that has one before it at its place, and the first of these
abbrev pub twin_verdict : List Float → ℕ → AuditVerdict
twin_verdict sites s = Err (Twin s (lowest (twin_at sites s) s))

unfoldable pub places_stage : List Float → AuditVerdict
places_stage sites = pick (any_below (has_twin sites) (length sites / 2)) (λ _. twin_verdict sites (lowest (has_twin sites) (length sites / 2))) (λ _. Ok tt)

-- ---- the fourth names nothing
unfoldable pub total_stage : Bool → List Float → AuditVerdict
total_stage whole sites = pick whole (λ _. places_stage sites) (λ _. Err Uncovered)

-- ---- the third: the lowest site, the first such corner of its ring, the first such other
unfoldable pub nearer_verdict : Float → List Float → List ℕ → List ℕ → List Float → List ℕ → List ℕ → ℕ → AuditVerdict
nearer_verdict far sites starts others v off ix s =
    let cell = cell_of off ix s in
    let part = cell_of starts others s in
    let all = no_lists starts others in
    let e = get_or cell (lowest (corner_nearer far sites s part all v cell) (length cell)) 0 in
    Err (Nearer s e (other_at all part (lowest (beyond_at far (point_at v e) sites s part all) (held_count all part (length sites / 2)))))

unfoldable pub nearer_stage : Bool → Float → List Float → List ℕ → List ℕ → List Float → List ℕ → List ℕ → AuditVerdict
nearer_stage whole far sites starts others v off ix =
    pick (any_below (site_nearer far sites starts others v off ix) (length sites / 2))
    (λ _. nearer_verdict far sites starts others v off ix (lowest (site_nearer far sites starts others v off ix) (length sites / 2))) (λ _. total_stage whole sites)

-- ---- the second: the lowest site, the first such corner of its ring
unfoldable pub outside_verdict : BoundingBox → List Float → List ℕ → List ℕ → ℕ → AuditVerdict
outside_verdict b v off ix s = Err (Outside s (entry_outside b v off ix s))

unfoldable pub outside_stage : Bool → BoundingBox → ℕ → List Float → List ℕ → List ℕ → List Float → List ℕ → List ℕ → AuditVerdict
outside_stage whole b bits sites starts others v off ix =
    pick (any_below (site_outside b v off ix) (length sites / 2)) (λ _. outside_verdict b v off ix (lowest (site_outside b v off ix) (length sites / 2)))
    (λ _. nearer_stage whole (far_of b bits) sites starts others v off ix)

-- ---- the first: the lowest site
unfoldable pub rings_stage : ℕ → Bool → BoundingBox → ℕ → List Float → List ℕ → List ℕ → List Float → List ℕ → List ℕ → AuditVerdict
rings_stage box whole b bits sites starts others v off ix =
    pick (any_below (site_folds box bits v off ix) (length sites / 2)) (λ _. Err (Ring (lowest (site_folds box bits v off ix) (length sites / 2))))
    (λ _. outside_stage whole b bits sites starts others v off ix)

unfoldable pub verdict_on : BoundingBox → ℕ → List Float → List ℕ → List ℕ → List Float → List ℕ → List ℕ → AuditVerdict
verdict_on b bits sites starts others v off ix = rings_stage (box_twice b) (total_whole (box_twice b) bits b v off ix) b bits sites starts others v off ix

-- ---- its numbers
abbrev pub audit_kind : AuditVerdict → ℕ
audit_kind (Ok _) = 0
audit_kind (Err (Ring s)) = 1
audit_kind (Err (Outside s e)) = 2
audit_kind (Err (Nearer s e o)) = 3
audit_kind (Err Uncovered) = 4
audit_kind (Err (Twin s o)) = 5

abbrev pub audit_site : AuditVerdict → ℕ
audit_site (Ok _) = EMPTY
audit_site (Err (Ring s)) = s
audit_site (Err (Outside s e)) = s
audit_site (Err (Nearer s e o)) = s
audit_site (Err Uncovered) = EMPTY
audit_site (Err (Twin s o)) = s

abbrev pub audit_vertex : AuditVerdict → ℕ
audit_vertex (Ok _) = EMPTY
audit_vertex (Err (Ring s)) = EMPTY
audit_vertex (Err (Outside s e)) = e
audit_vertex (Err (Nearer s e o)) = e
audit_vertex (Err Uncovered) = EMPTY
audit_vertex (Err (Twin s o)) = EMPTY

abbrev pub audit_other : AuditVerdict → ℕ
audit_other (Ok _) = EMPTY
audit_other (Err (Ring s)) = EMPTY
audit_other (Err (Outside s e)) = EMPTY
audit_other (Err (Nearer s e o)) = o
audit_other (Err Uncovered) = EMPTY
audit_other (Err (Twin s o)) = o
