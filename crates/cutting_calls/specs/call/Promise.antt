-- What cutting promises: its number, each lent slice at exit by one rule of that number, and the count of vertices.
use Rattle.std.specs.Prelude.{◌≡◌, true, List, [], ◌++◌, ℕ, ◌+◌, ◌*◌, ◌/◌, eqb, Float, length, Result, Ok, Err}
use Rattle.base.specs.common.Pick.{pick}
use Rattle.base.specs.common.Refusals.{Finds}
use Rattle.base.specs.common.Binary64.{zero}
use Rattle.base.specs.numbers.Numbers.{EMPTY}
use Rattle.base.specs.declared.refusal.Refusal.{Refusal}
use Rattle.base.specs.refusal.Number.{answer_number}
use Rattle.plane.specs.points.Flat.{pour}
use Rattle.plane.specs.declared.points.Point.{Point}
use Rattle.plane.specs.declared.boxes.BoundingBox.{BoundingBox}
use Rattle.plane.specs.declared.given.Given.{Given}
use Rattle.mesh.specs.Rules.{call_rules}
use Rattle.mesh.specs.Accepted.{Mesh, table_of, site_count}
use Rattle.mesh_check.specs.whole.AtExit.{at_exit}
use Rattle.definition.specs.declared.Fault.{Fault}
use Rattle.definition.specs.Fault.{Outcome, ok, refused}
use Rattle.definition.specs.Build.{centers_from}
use Rattle.cell_memory.specs.layout.Cleared.{padded, cleared_from}
use Rattle.arguments.specs.asking.Asks.{box_rules}
use Rattle.admission.specs.Admits.{asked_rules}
use Rattle.cutting_calls.specs.cut_admission.CutSlices.{CutSlices, cut_room_of}
use Rattle.cutting.specs.border.Border.{border_number}
use Rattle.cutting_writer.specs.sites.Pieces.{Sheet, start_sheet, cut_sheet}

-- what is told of a cutting: the number, and how many vertices there are
pub record CutDone : Type 0 where
  pub number : ℕ
  pub count : ℕ

-- none where it is refused
abbrev pub count_of : Result ℕ Refusal → ℕ
count_of (Ok n) = n
count_of (Err _) = 0

abbrev pub done : Result ℕ Refusal → CutDone
done r = record { number = answer_number r; count = count_of r }

-- the circumcenters of all triangles, or 11
abbrev pub centers_of : List Float → List ℕ → Outcome Fault (List Point)
centers_of sites tri = centers_from sites tri 0 (length tri / 3) []

-- 11, 25 or 0: what comes of the circumcenters, in the slice of vertices v
abbrev pub number_by : BoundingBox → List Float → List ℕ → List ℕ → List ℕ → List Float → Outcome Fault (List Point) → ℕ
number_by b sites tri hull table v (ok centers) = border_number b sites tri hull table (pour centers v)
number_by b sites tri hull table v (refused f) = f.number

abbrev pub sheet_by : BoundingBox → List Float → List ℕ → List ℕ → List ℕ → List Float → List ℕ → List ℕ → Outcome Fault (List Point) → Sheet
sheet_by b sites tri he table v ix off (ok centers) = cut_sheet b sites tri he table (pour centers v) ix off
sheet_by b sites tri he table v ix off (refused f) = start_sheet b 0 v ix off

unfoldable pub cut_number : Mesh → BoundingBox → List Float → ℕ
cut_number m b v = number_by b m.sites m.triangles m.hull (table_of m) v (centers_of m.sites m.triangles)

unfoldable pub cut_of : Mesh → BoundingBox → CutSlices → Sheet
cut_of m b old = sheet_by b m.sites m.triangles m.halfedges (table_of m) old.vertices old.indexes old.offsets (centers_of m.sites m.triangles)

pub record CutAnswer (m : Mesh) (g : Given) (old new : CutSlices) (r count : ℕ) : Type 0 where
  pub number : Finds (call_rules m (cut_room_of m old ≡ true) (box_rules g.sound) ++ asked_rules (cut_number m g.bounds old.vertices)) 0 r
  pub work : new.work ≡ at_exit EMPTY (padded (length old.work) EMPTY (table_of m)) old.work r
  pub vertices : new.vertices ≡ at_exit zero (cleared_from (2 * (cut_of m g.bounds old).page.pen.count) zero (cut_of m g.bounds old).page.vertices) old.vertices r
  pub indexes : new.indexes ≡ at_exit EMPTY (cleared_from (cut_of m g.bounds old).page.pen.at EMPTY (cut_of m g.bounds old).page.indexes) old.indexes r
  pub offsets : new.offsets ≡ at_exit EMPTY (cleared_from (site_count m.sites + 1) EMPTY (cut_of m g.bounds old).offsets) old.offsets r
  pub counted : count ≡ pick (eqb r 0) (λ _. (cut_of m g.bounds old).page.pen.count) (λ _. 0)
