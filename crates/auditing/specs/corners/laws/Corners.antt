-- The tests as the code makes them.
use Rattle.std.specs.Prelude.{◌≡◌, Bool, not, List, ℕ, ltb, Float, length, get_or}
use Rattle.std.proofs.Common.{ap, ◌∙◌}
use Rattle.ring_area.specs.lowest.Lowest.{lowest}
use Rattle.plane.specs.points.Flat.{point_at}
use Rattle.plane.specs.declared.points.Point.{Point}
use Rattle.plane.specs.sides.Sides.{inside_of}
use Rattle.plane.specs.declared.boxes.BoundingBox.{BoundingBox}
use Rattle.walks.specs.shared.Cells.{cell_of}
use Rattle.auditing.specs.corners.Outside.{outside_at, cell_outside, site_outside}

-- w is the entry e as a place
pub outside_is : (b : BoundingBox) (v : List Float) {t : Bool} {p : Point} {w : ℕ} (e : ℕ) → w ≡ e → p ≡ point_at v w → t ≡ inside_of b p → not t ≡ not (inside_of b (point_at v e))
outside_is b v e x y z = ap not (z ∙ ap (inside_of b) y ∙ ap (λ (k : ℕ). inside_of b (point_at v k)) x)

pub cell_outside_lem : (b : BoundingBox) (v : List Float) (cell : List ℕ) {k : ℕ} → k ≡ lowest (outside_at b v cell) (length cell) → ltb k (length cell) ≡ cell_outside b v cell
unfolding cell_outside
cell_outside_lem b v cell e = ap (λ (k : ℕ). ltb k (length cell)) e

pub site_outside_lem : (b : BoundingBox) (v : List Float) (off ix : List ℕ) (s : ℕ) {t : Bool} {cell : List ℕ} → cell ≡ cell_of off ix s → t ≡ cell_outside b v cell → t ≡ site_outside b v off ix s
site_outside_lem b v off ix s c e = e ∙ ap (cell_outside b v) c
