-- What `audit` prints, said of the bytes of its input: the lines of the audit of what the build makes of the mesh whose form they are, or the line of a refusal.
-- The tolerance is 2 ^ -20, and every piece is held against all sites. Definitions only.
use Rattle.std.specs.Prelude.{ℕ, ◌/◌, Bool, true, ◌&&◌, List, [], ◌∷◌, map, length, Float}
use Rattle.base.specs.common.Pick.{pick}
use Rattle.base.specs.numbers.Numbers.{refused_corner}
use Rattle.ring_area.specs.lowest.Lowest.{lowest}
use Rattle.plane.specs.points.Flat.{point_at, flat}
use Rattle.plane.specs.centers.Circumcenter.{ok_center}
use Rattle.plane.specs.declared.boxes.BoundingBox.{BoundingBox}
use Rattle.definition.specs.Cell.{unmarked}
use Rattle.cell_memory.specs.layout.Regions.{joined, offsets_from}
use Rattle.auditing.specs.total.Total.{missing_of}
use Rattle.auditing.specs.Verdict.{verdict_on}
use Rattle.audit.specs.turns.Turned.{turned_at, turned_count}
use Rattle.audit.specs.text.AuditLines.{audit_lines}
use Rattle.printing.specs.parts.Labelled.{refusal}
use Rattle.printing.specs.Printed.{Text}

-- rule 24: each vertex that is named is finite and within 2 ^ 400
unfoldable pub ok_corners : List Float → List ℕ → Bool
ok_corners v [] = true
ok_corners v (e ∷ es) = ok_center (point_at v e) && ok_corners v es

-- of sites, triangles, and pieces as they lie: vertices, offsets, entries
unfoldable pub told : BoundingBox → List Float → List ℕ → List Float → List ℕ → List ℕ → List ℕ
told b sites tri v off ix =
    let T = length tri / 3 in
    pick (ok_corners v ix) (λ _. audit_lines (turned_count sites tri T) T (lowest (turned_at sites tri) T) (verdict_on b 20 sites [] [] v off ix) (missing_of b v off ix))
    (λ _. refusal refused_corner)

-- what is printed is `Prints audit_text` (crate printing)
abbrev pub audit_text : Text
audit_text m g b = let cells = map unmarked b.cells in told g.bounds m.sites m.triangles (flat b.verts) (offsets_from 0 cells) (joined cells)
