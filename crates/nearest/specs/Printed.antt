-- What `nearest` prints, said of the bytes of its input: the line by the numbers of the check with the hull (grid::nearest), asked of the sites' whole
-- numbers, by rule 3 on the box and by its corners, or of the reader's refusal. A site that is no whole number of the profile has 8,193 there, so that rule 22
-- stands in its place among the others, and is told as `not on the grid`. Definitions only.
use Rattle.std.specs.Prelude.{◌≡◌, ℕ, Bool, List, length, ◌==◌, Ok, Err}
use Rattle.base.specs.common.Pick.{pick}
use Rattle.base.specs.common.Decide.{First}
use Rattle.base.specs.numbers.Numbers.{EMPTY, refused_count, refused_box, refused_grid}
use Rattle.plane.specs.declared.given.Given.{Given}
use Rattle.mesh.specs.Accepted.{Mesh}
use Rattle.grid.specs.Plane.{WithinAt}
use Rattle.grid.specs.check.Promise.{GridMesh, grid_mesh, grid_sites}
use Rattle.grid.specs.nearest.Promise.{NearestChecks}
use Rattle.nearest.specs.whole_sites.Whole.{wholes_of}
use Rattle.nearest.specs.corners.Tried.{off_corner}
use Rattle.form.specs.Limits.{most_sites}
use Rattle.printing.specs.OfForm.{OfForm}
use Rattle.nearest.specs.declared.line.Offence.TheVariants.{Triangle, Halfedge, HullPlace, Unused, Corner, OffGrid, Refused}
use Rattle.nearest.specs.line.NearestLine.{NearestLine, nearest_line}

-- kinds 1, 2 and 3; then the lowest unused site, if there is one; then the lowest corner that is not admitted
unfoldable pub kind_line : ℕ → ℕ → ℕ → ℕ → NearestLine
kind_line kind place unused corner =
    pick (kind == 1) (λ _. Err (Triangle place)) (λ _. pick (kind == 2) (λ _. Err (Halfedge place)) (λ _. pick (kind == 3) (λ _. Err (HullPlace place))
    (λ _. pick (unused == EMPTY) (λ _. pick (corner == 4) (λ _. Ok tt) (λ _. Err (Corner corner))) (λ _. Err (Unused unused)))))

-- rule 3 stands behind rule 1, and before all others: rule 2 is kept
unfoldable pub with_box : Bool → ℕ → ℕ
with_box sound number = pick sound (λ _. number) (λ _. pick (number == refused_count) (λ _. number) (λ _. refused_box))

-- by the number first
unfoldable pub answer_line : ℕ → ℕ → ℕ → ℕ → ℕ → ℕ → NearestLine
answer_line number kind place unused corner beyond =
    pick (number == refused_grid) (λ _. Err (OffGrid beyond)) (λ _. pick (number == 0) (λ _. kind_line kind place unused corner) (λ _. Err (Refused number)))

-- the numbers that voronoi_grid_nearest promises for a work slice of 96 entries, the box, and the lowest site beyond the grid
pub record NearestTold (g : Given) (m : GridMesh) (l : NearestLine) : Type 0 where
  pub old : List ℕ
  pub new : List ℕ
  pub long : length old ≡ most_sites
  pub number : ℕ
  pub kind : ℕ
  pub place : ℕ
  pub unused : ℕ
  pub checks : NearestChecks m old new number kind place unused
  pub beyond : ℕ
  pub first : First (WithinAt m.grid) (grid_sites m) beyond
  pub line : l ≡ answer_line (with_box g.sound number) kind place unused (off_corner g.bounds) beyond

-- the mesh of a form with its sites as whole numbers
abbrev pub grid_of : Mesh → GridMesh
grid_of m = grid_mesh (wholes_of m.sites) m.triangles m.halfedges m.hull

abbrev pub ToldOfMesh : Mesh → Given → NearestLine → Type 0
ToldOfMesh m g = NearestTold g (grid_of m)

-- the line for the bytes of a form
abbrev pub FormLine : List ℕ → NearestLine → Type 0
FormLine = OfForm ToldOfMesh (λ n. Err (Refused n))

pub record NearestPrints (s text : List ℕ) : Type 0 where
  pub line : NearestLine
  pub true : FormLine s line
  pub shown : text ≡ nearest_line line
