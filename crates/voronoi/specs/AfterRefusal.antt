-- How demand 1 speaks of what a refusal leaves, for the calls beside those on a mesh's lists and the builds (Outcomes): every lent slice and every lent number.
use Rattle.std.specs.Prelude.{◌≡◌, false, List, [], ◌≢◌, ℕ, ◌<◌, Float, ℤ, length}
use Rattle.base.specs.common.Binary64.{zero}
use Rattle.base.specs.numbers.Numbers.{EMPTY}
use Rattle.plane.specs.declared.points.Point.{Point}
use Rattle.plane.specs.declared.given.Given.{Given}
use Rattle.plane.specs.lines.Line.{line_of}
use Rattle.plane.specs.rays.Ray.{ray_of}
use Rattle.mesh.specs.Accepted.{Mesh}
use Rattle.admission.specs.Slices.{Slices}
use Rattle.mending.specs.slices.Lent.{Lent}
use Rattle.grid.specs.check.Promise.{GridMesh}
use Rattle.reasons.specs.declared.ReasonNumbers.{ReasonNumbers}
use Rattle.reader.specs.Calls.{FormLists, roomy}
use Rattle.reader.specs.declared.answers.Answer.{Answer}
use Rattle.reader.specs.declared.answers.Report.{Report}
use Rattle.voronoi.specs.Plane.{Dist2, Circumcenter, Centroid, Edges, Centered, Corners, Inside, ExclusivelyInside, WhichEdge, Meets}
use Rattle.voronoi.specs.Walks.{SharedEdge, CellsShareEdge}
use Rattle.voronoi.specs.Builds.{Cell, CellPart}
use Rattle.voronoi.specs.Explanations.{Why}
use Rattle.voronoi.specs.Maps.{CellWkbBits, CellWkb}
use Rattle.voronoi.specs.Mends.{Mend}
use Rattle.voronoi.specs.Forms.{ReaderBegin, ReaderFeed, ReaderEnd, ReadForm}
use Rattle.voronoi.specs.Gauges.{ReadMultipoint, WriteMultipoint}
use Rattle.voronoi.specs.Grids.{GridCheck, GridNearest, SitesOfGrid}
use Rattle.voronoi.specs.Sizes.{Areas}
use Rattle.voronoi.specs.Audits.{Audit}
use Rattle.voronoi.specs.Certificates.{Certify}
use Rattle.voronoi.specs.Outcomes.{SliceRefused, BuildRefused}

-- mending: the four slices and the three numbers
pub record MendRefused (old new : Lent) (r k p q : ℕ) : Type 0 where
  pub work : SliceRefused EMPTY old.work new.work r
  pub pairs : SliceRefused EMPTY old.pairs new.pairs r
  pub mended : SliceRefused EMPTY old.mended new.mended r
  pub changes : SliceRefused EMPTY old.changes new.changes r
  pub hull_length : k ≡ 0
  pub pair_changes_lem : p ≡ 0
  pub hull_changes_lem : q ≡ 0

-- a mesh on the grid: the work slice is as it was after 22 too, and nothing is named
pub record GridRefused (w w' : List ℕ) (r k p : ℕ) : Type 0 where
  pub work : r ≢ 22 → SliceRefused EMPTY w w' r
  pub kept_22 : r ≡ 22 → w' ≡ w
  pub kind : k ≡ EMPTY
  pub place : p ≡ EMPTY

-- an audit: four numbers and the share
pub record AuditRefused (k s e o : ℕ) (share : Float) : Type 0 where
  pub kind : k ≡ EMPTY
  pub site : s ≡ EMPTY
  pub vertex : e ≡ EMPTY
  pub other : o ≡ EMPTY
  pub missing : share ≡ zero

-- a certificate: four numbers and the work slice
pub record CertifyRefused (w w' : List ℕ) (r k s e o : ℕ) : Type 0 where
  pub kind : k ≡ EMPTY
  pub site : s ≡ EMPTY
  pub vertex : e ≡ EMPTY
  pub other : o ≡ EMPTY
  pub work : SliceRefused EMPTY w w' r

pub record AfterRefusal (m : Mesh) : Type 0 where
  -- points and the box: each lent number is 0, a side EMPTY
  pub dist2 : (a b : Point) {r : ℕ} {d : Float} → Dist2 a b r d → r ≢ 0 → d ≡ zero
  pub circumcenter : (a b c : Point) {r : ℕ} {x y : Float} → Circumcenter a b c r x y → r ≢ 0 → (x ≡ zero) × (y ≡ zero)
  pub centroid : (l : List Float) {r : ℕ} {x y : Float} → Centroid l r x y → r ≢ 0 → (x ≡ zero) × (y ≡ zero)
  pub box : (g : Given) {n : ℕ} {l t r b a d : Float} → Edges g n l t r b a d → n ≢ 0
      → (l ≡ zero) × (t ≡ zero) × (r ≡ zero) × (b ≡ zero) × (a ≡ zero) × (d ≡ zero)
  pub box_center : (g : Given) {n : ℕ} {x y a d : Float} → Centered g n x y a d → n ≢ 0 → (x ≡ zero) × (y ≡ zero) × (a ≡ zero) × (d ≡ zero)
  pub corners : (g : Given) {before after : List Float} {r : ℕ} → Corners g before r after → r ≢ 0 → after ≡ before
  pub is_inside : (g : Given) (p : Point) {r y : ℕ} → Inside g p r y → r ≢ 0 → y ≡ 0
  pub is_exclusively_inside : (g : Given) (p : Point) {r y : ℕ} → ExclusivelyInside g p r y → r ≢ 0 → y ≡ 0
  pub which_edge : (g : Given) (p : Point) {r side : ℕ} → WhichEdge g p r side → r ≢ 0 → side ≡ EMPTY
  pub intersect_line : (g : Given) (p q : Point) {r k : ℕ} {x y u v : Float} → Meets line_of g p q r k x y u v → r ≢ 0
      → (k ≡ 0) × (x ≡ zero) × (y ≡ zero) × (u ≡ zero) × (v ≡ zero)
  pub project_ray : (g : Given) (p dir : Point) {r k : ℕ} {x y u v : Float} → Meets ray_of g p dir r k x y u v → r ≢ 0
      → (k ≡ 0) × (x ≡ zero) × (y ≡ zero) × (u ≡ zero) × (v ≡ zero)
  -- what triangles and cells share, and a cell
  pub shared_edge : (a b : ℕ) {w w' : List ℕ} {e r : ℕ} → SharedEdge m a b w w' e r → r ≢ 0 → e ≡ EMPTY
  pub cells_share_edge : (off ix : List ℕ) (a b : ℕ) {y r : ℕ} → CellsShareEdge off ix a b y r → r ≢ 0 → y ≡ 0
  pub cell : (off ix : List ℕ) (s : ℕ) {start long r : ℕ} → Cell off ix s start long r → r ≢ 0 → (start ≡ 0) × (long ≡ 0)
  pub cell_part : (off ix : List ℕ) (s : ℕ) {part : List ℕ} {r : ℕ} → CellPart off ix s part r → r ≢ 0 → part ≡ []
  -- the reason: the five slices as after a build
  pub why : (g : Given) (asked first second : ℕ) {old new : Slices} {t : ReasonNumbers} → Why m g asked first second old new t → t.number ≢ 0 → BuildRefused old new t.number
  -- a cell's polygon: the output as it was, and no byte
  pub cell_wkb_bits : (v off ix : List ℕ) (s : ℕ) {out new : List ℕ} {k r : ℕ} → CellWkbBits v off ix s out new k r → r ≢ 0 → (new ≡ out) × (k ≡ 0)
  pub cell_wkb : (v : List Float) (off ix : List ℕ) (s : ℕ) {out new : List ℕ} {k r : ℕ} → CellWkb v off ix s out new k r → r ≢ 0 → (new ≡ out) × (k ≡ 0)
  pub mend : {old new : Lent} {r k p q : ℕ} → Mend m old new r k p q → r ≢ 0 → MendRefused old new r k p q
  -- MultiPoints: the output as it was, and no count
  pub read_multipoint : (s : List ℕ) {old new : List Float} {k r : ℕ} → ReadMultipoint s old new k r → r ≢ 0 → (new ≡ old) × (k ≡ 0)
  pub write_multipoint : (sites : List Float) {old new : List ℕ} {k r : ℕ} → WriteMultipoint sites old new k r → r ≢ 0 → (new ≡ old) × (k ≡ 0)
  -- the grid
  pub grid_check : (g : GridMesh) {w w' : List ℕ} {r k p : ℕ} → GridCheck g w w' r k p → r ≢ 0 → GridRefused w w' r k p
  pub grid_nearest : (g : GridMesh) {w w' : List ℕ} {r k p u : ℕ} → GridNearest g w w' r k p u → r ≢ 0 → GridRefused w w' r k p × (u ≡ EMPTY)
  pub grid_sites_lem : (grid : List ℤ) {old new : List Float} {r : ℕ} → SitesOfGrid grid old new r → r ≢ 0 → new ≡ old
  pub areas : (v : List Float) (off ix : List ℕ) {old new : List Float} {r : ℕ} → Areas v off ix old new r → r ≢ 0 → new ≡ old
  pub audit : (g : Given) (sites v : List Float) (off ix starts others : List ℕ) (bits : ℕ) {r k s e o : ℕ} {share : Float}
      → Audit g sites v off ix starts others bits r k s e o share → r ≢ 0 → AuditRefused k s e o share
  pub certify : (g : Given) (sites v : List Float) (off ix : List ℕ) (bits : ℕ) {w w' : List ℕ} {r k s e o : ℕ}
      → Certify g sites v off ix bits w w' r k s e o → r ≢ 0 → CertifyRefused w w' r k s e o
  -- the reader: a state of fewer than sixteen words, or lists without the room of the largest form, get 2, and nothing is changed. After 17 and 20 the state has the refusal and
  -- its byte, and the lists what was read before it: the promise itself says so
  pub reader_begin : (ws : List ℕ) {ws' : List ℕ} {r : ℕ} → ReaderBegin ws ws' r → r ≢ 0 → (r ≡ 2) × (ws' ≡ ws)
  pub reader_feed : (ws : List ℕ) (l : FormLists) (s : List ℕ) {ws' : List ℕ} {l' : FormLists} {a : Answer} → ReaderFeed ws l s ws' l' a
      → ((length ws < 16) → (a.number ≡ 2) × (ws' ≡ ws) × (l' ≡ l)) × (roomy l ≡ false → (a.number ≡ 2) × (ws' ≡ ws) × (l' ≡ l))
  pub reader_end : (ws : List ℕ) {ws' : List ℕ} {t : Report} → ReaderEnd ws ws' t → length ws < 16 → (t.number ≡ 2) × (ws' ≡ ws)
  pub read_form_lem : (l : FormLists) (s : List ℕ) {l' : FormLists} {t : Report} → ReadForm l s l' t → roomy l ≡ false → (t.number ≡ 2) × (l' ≡ l)
