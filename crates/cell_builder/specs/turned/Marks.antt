-- Inner sites whose cells are made last, in the order of the sites: every circumcenter round such a site is inside the box, so its cell is its ring, whatever was made before.
-- A mark, one for eight triangles, says that the table entry of some other site may stand there, or a half-edge of a hull site without a cell; a mark too many only costs time.
use Rattle.std.specs.Prelude.{◌≡◌, false, List, [], ◌⊎◌, ◌≢◌, ℕ, ◌*◌, ◌/◌, ◌%◌, ◌≤◌, ◌<◌, length, get_or}
use Rattle.base.specs.numbers.Numbers.{EMPTY}
use Rattle.plane.specs.declared.points.Point.{Point}
use Rattle.plane.specs.declared.boxes.BoundingBox.{BoundingBox}
use Rattle.base.specs.common.Count.{occ}
use Rattle.mesh.specs.Mesh.{pair_of, whole_of}
use Rattle.definition.specs.Cell.{in_box}
use Rattle.definition.specs.Build.{CellState}
use Rattle.cell_builder.specs.tried.laws.Early.{early_cell}
use Rattle.cell_builder.specs.tried.SlicesInvariant.{Plan, Ground}

-- the mark on the eight triangles of which one has half-edge e
abbrev pub mark_of : List ℕ → ℕ → ℕ
mark_of m e = get_or m (e / 24) 0

-- where a circumcenter is outside, the table entries of its triangle's sites are marked; of the first n entries of the triangle list
abbrev pub Covers : BoundingBox → List Point → List ℕ → List ℕ → List ℕ → ℕ → Type 0
Covers b vs tri table m n = (k : ℕ) → k < n → in_box b (length tri / 3) vs (k / 3) ≡ false → mark_of m (get_or table (get_or tri k 0) 0) ≢ 0

-- every entry of the triangle list stands in the table, and the circumcenters among count vertices
pub record Markable (tri table : List ℕ) (count numbers : ℕ) : Type 0 where
  pub threes : length tri % 3 ≡ 0
  pub few : length tri ≤ 393216
  pub each : (k : ℕ) → k < length tri → (get_or tri k 0 < length table) × (get_or table (get_or tri k 0) 0 < 393216)
  pub centers : length tri / 3 ≤ count
  pub room : 2 * count ≤ numbers

-- the table entry of site k is a paired half-edge that is not marked
pub record MadeLast (he table m : List ℕ) (k : ℕ) : Type 0 where
  pub entry : get_or table k 0 < length he
  pub inner : pair_of he (get_or table k 0) ≢ EMPTY
  pub unmarked : mark_of m (get_or table k 0) ≡ 0

-- a mark stays
abbrev pub MarksStay : List ℕ → List ℕ → Type 0
MarksStay m m₁ = (x : ℕ) → mark_of m x ≢ 0 → mark_of m₁ x ≢ 0

-- all half-edges of the walk from s are marked
abbrev pub WalkMarked : List ℕ → List ℕ → ℕ → Type 0
WalkMarked he m s = (h : ℕ) → 0 < occ h (whole_of he s) → mark_of m h ≢ 0

-- the cells c, but that some of those of sites of Q are left out in t
pub record LeftOut (w : Plan) (g : Ground) (Q : ℕ → Type 0) (c t : CellState) : Type 0 where
  pub verts : c.verts ≡ t.verts
  pub owners : c.owners ≡ t.owners
  pub steps : c.steps ≡ t.steps
  pub width : length c.cells ≡ length t.cells
  pub each : (k : ℕ) → k < g.sites → (get_or c.cells k [] ≡ get_or t.cells k []) ⊎
      (Q k × (get_or t.cells k [] ≡ []) × (get_or c.cells k [] ≡ early_cell w.halfedges (get_or w.table k 0)))
