-- What the steps of a cutting ask and leave: from the circumcenters on, and with them.
use Rattle.std.specs.Prelude.{◌≡◌, true, List, [], ◌≢◌, ℕ, ◌*◌, ◌/◌, ◌≤◌, Float, length}
use Rattle.base.specs.common.Binary64.{zero}
use Rattle.base.specs.numbers.Numbers.{EMPTY, refused_triangle}
use Rattle.plane.specs.points.Flat.{pour}
use Rattle.plane.specs.declared.points.Point.{Point}
use Rattle.plane.specs.declared.boxes.BoundingBox.{BoundingBox}
use Rattle.plane.specs.declared.given.Given.{Given}
use Rattle.definition.specs.Fault.{ok}
use Rattle.cell_memory.specs.layout.Cleared.{padded}
use Rattle.cell_builder.specs.rings.Centers.{Named}
use Rattle.cutting.specs.sides.Kept.{Ordered}
use Rattle.cutting.specs.border.Border.{border_number}
use Rattle.cutting_writer.specs.sites.Pieces.{Sheet, cut_sheet, CutInto, Cuttable}
use Rattle.cutting_calls.specs.call.Promise.{CutDone, centers_of, number_by, sheet_by}

-- after a refusal: no vertex, and all three slices cleared
pub record Emptied (v : List Float) (ix off : List ℕ) (count : ℕ) (v₁ : List Float) (ix₁ off₁ : List ℕ) : Type 0 where
  pub none : count ≡ 0
  pub vertices : v₁ ≡ padded (length v) zero []
  pub indexes : ix₁ ≡ padded (length ix) EMPTY []
  pub offsets : off₁ ≡ padded (length off) EMPTY []

-- the number k, and by it the sheet or nothing
pub record CutBy (k : ℕ) (sh : Sheet) (n : ℕ) (v : List Float) (ix off : List ℕ) (r : CutDone) (v₁ : List Float) (ix₁ off₁ : List ℕ) : Type 0 where
  pub number : r.number ≡ k
  pub made : r.number ≡ 0 → CutInto n sh r.count v₁ ix₁ off₁
  pub late : r.number ≢ 0 → refused_triangle ≤ r.number
  pub none : r.number ≢ 0 → Emptied v ix off r.count v₁ ix₁ off₁

module _ (b : BoundingBox) (sites : List Float) (tri he hull table : List ℕ) (v : List Float) (ix off : List ℕ) where
  abbrev pub Centered : Type 0
  Centered = border_number b sites tri hull table v ≡ 0 → Cuttable b sites tri he table v ix off

  abbrev pub CutCentered : CutDone → List Float → List ℕ → List ℕ → Type 0
  CutCentered = CutBy (border_number b sites tri hull table v) (cut_sheet b sites tri he table v ix off) (length table) v ix off

  pub record Meshed : Type 0 where
    pub named : Named sites tri
    pub room : 2 * (length tri / 3) ≤ length v
    pub cuttable : (centers : List Point) → centers_of sites tri ≡ ok centers → length (pour centers v) ≡ length v → border_number b sites tri hull table (pour centers v) ≡ 0
        → Cuttable b sites tri he table (pour centers v) ix off

  abbrev pub CutMesh : CutDone → List Float → List ℕ → List ℕ → Type 0
  CutMesh = CutBy (number_by b sites tri hull table v (centers_of sites tri)) (sheet_by b sites tri he table v ix off (centers_of sites tri)) (length table) v ix off

-- a box that keeps rule 3 is in order
abbrev pub InOrder : Given → Type 0
InOrder g = g.sound ≡ true → Ordered g.bounds
