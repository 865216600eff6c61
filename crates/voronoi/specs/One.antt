-- Theorem: of each public call no two outcomes are allowed for one input.
use Rattle.std.specs.Prelude.{◌≡◌, false, List, [], ◌++◌, ℕ, ◌+◌, ◌-◌, ◌%◌, ◌^◌, ◌<◌, eqb, leb, Float, ℤ, length, get_or, take, drop, replicate}
use Rattle.std.proofs.Common.{sym, ap, ◌∙◌}
use Rattle.std.specs.Float.{nan, binary64}
use Rattle.std.specs.Float.Ieee.{of_bits, to_bits}
use Rattle.base.specs.common.Binary64.{zero}
use Rattle.base.specs.common.Refusals.{Rule}
use Rattle.base.specs.common.Pick.{pick}
use Rattle.base.specs.common.laws.Refusals.{finds_one}
use Rattle.base.specs.numbers.Numbers.{EMPTY, refused_offsets}
use Rattle.root.specs.Root.{Root, RootBits, magnitude, signum}
use Rattle.root.specs.Unique as root
use Rattle.plane.specs.declared.points.Point.{Point}
use Rattle.plane.specs.points.Plane.{near_of}
use Rattle.plane.specs.points.Flat.{flat}
use Rattle.plane.specs.boxes.Box.{corners_of}
use Rattle.plane.specs.declared.boxes.BoundingBox.{BoundingBox}
use Rattle.plane.specs.declared.given.Given.{Given}
use Rattle.plane.specs.declared.lines.Crossing.{Crossing}
use Rattle.mesh.specs.Accepted.{Mesh}
use Rattle.mesh_check.specs.whole.AtExit.{at_exit}
use Rattle.mesh_check.specs.whole.Answers.{work_after}
use Rattle.walks.specs.shared.Cells.{cell_of, share_edge_of}
use Rattle.walks.specs.shared.Edge.{shared_edge_of}
use Rattle.admission.specs.Slices.{Slices}
use Rattle.cell_query.specs.laws.Cells.{cell_number}
use Rattle.building.specs.answers.laws.Promise.{answers_one}
use Rattle.cutting_calls.specs.cut_admission.CutSlices.{CutSlices}
use Rattle.cutting_calls.specs.call.laws.Answer.{cut_one}
use Rattle.voronoi.specs.Cuts.{Cut}
use Rattle.plane_calls.specs.Plane.{bit, Answered}
use Rattle.wkb.specs.Polygon.{patterns}
use Rattle.wkb.specs.One.{one_wkb}
use Rattle.all_wkb.specs.One as all-images
use Rattle.reasons.specs.declared.ReasonNumbers.{ReasonNumbers}
use Rattle.reasons.specs.call.One.{one_why_call}
use Rattle.voronoi.specs.Maps.{CellWkbBits, CellWkb, AllWkb}
use Rattle.library_version.specs.Version.{version}
use Rattle.voronoi.specs.Explanations.{Why}
use Rattle.wkb.specs.multipoint.One.{one_read}
use Rattle.wkb.specs.multipoint_writer.One.{one_write}
use Rattle.voronoi.specs.Gauges.{ReadMultipoint, WriteMultipoint}
use Rattle.mending.specs.slices.Lent.{Lent}
use Rattle.mending.specs.One.{mends_one}
use Rattle.grid.specs.check.Promise.{GridMesh}
use Rattle.grid.specs.check.One.{grid_checks_one}
use Rattle.grid.specs.nearest.One.{nearest_checks_one}
use Rattle.grid.specs.floats.One.{grid_sites_one}
use Rattle.voronoi.specs.Mends.{Mend}
use Rattle.reader.specs.Calls.{FormLists}
use Rattle.reader.specs.One.{begins_one, feeds_one, ends_one, reads_one}
use Rattle.reader.specs.declared.answers.Answer.{Answer}
use Rattle.reader.specs.declared.answers.Report.{Report}
use Rattle.voronoi.specs.Forms.{ReaderBegin, ReaderFeed, ReaderEnd, ReadForm}
use Rattle.voronoi.specs.Grids.{GridCheck, GridNearest, SitesOfGrid}
use Rattle.flipping.specs.call.Flips.{FlipLists}
use Rattle.flipping.specs.call.One.{flips_one}
use Rattle.voronoi.specs.Flips.{Flip}
use Rattle.areas.specs.One as areas
use Rattle.queries.specs.bulk_neighbours.One as bulk-neighbours
use Rattle.queries.specs.bulk_ends.One as bulk-ends
use Rattle.voronoi.specs.Bulk.{AllNeighbours, EndsOfPaths}
use Rattle.voronoi.specs.Sizes.{Areas}
use Rattle.voronoi.specs.Plane.{Dist2, Circumcenter, Centroid, Edges, Centered, Corners, Inside, ExclusivelyInside, WhichEdge, Meets}
use Rattle.voronoi.specs.Meshes.{Check}
use Rattle.voronoi.specs.Walks.{Handed, Walk, Neighbours, ClippedNeighbours, Path, SharedEdge, CellsShareEdge}
use Rattle.voronoi.specs.Builds.{Build, CellPart, Cell}

-- two values that one definition gives
same : {A : Type 0} {a b d : A} → a ≡ d → b ≡ d → a ≡ b
same p q = p ∙ sym q

-- ---- the version
pub one_version : (r s : ℕ) → r ≡ version → s ≡ version → r ≡ s
one_version r s = same

-- ---- single numbers
pub one_root_bits : (b r s : ℕ) → r < 2 ^ 64 → s < 2 ^ 64 → RootBits b r → RootBits b s → r ≡ s
one_root_bits = root.one_pattern

pub one_root : (x r s : Float) → Root x r → Root x s → r ≡ s
one_root = root.one_root

pub one_magnitude_bits : (b r s : ℕ) → r ≡ b % 2 ^ 63 → s ≡ b % 2 ^ 63 → r ≡ s
one_magnitude_bits b r s = same

pub one_magnitude : (x r s : Float) → r ≡ magnitude x → s ≡ magnitude x → r ≡ s
one_magnitude x r s = same

pub one_signum_bits : (b r s : ℕ) → r ≡ to_bits binary64 (signum (of_bits binary64 b)) → s ≡ to_bits binary64 (signum (of_bits binary64 b)) → r ≡ s
one_signum_bits b r s = same

pub one_signum : (x r s : Float) → r ≡ signum x → s ≡ signum x → r ≡ s
one_signum x r s = same

-- ---- points and the box
pub one_near : (a b : Float) (r s : ℕ) → r ≡ bit (near_of a b) → s ≡ bit (near_of a b) → r ≡ s
one_near a b r s = same

-- the number, and the lent numbers as a list
answered_one : {A : Type 0} {rules : List (Rule ℕ)} {blank : A} {made out other : List A} {r s : ℕ} → Answered rules blank made r out → Answered rules blank made s other
    → (r ≡ s) × (out ≡ other)
answered_one {blank = blank} {made} p q =
    let e = finds_one p.number q.number in
    (e, p.values ∙ ap (λ (n : ℕ). pick (eqb n 0) (λ _. made) (λ _. replicate (length made) blank)) e ∙ sym q.values)

-- one number of two equal lists
nth : {A : Type 0} (blank : A) (i : ℕ) {l k : List A} → l ≡ k → get_or l i blank ≡ get_or k i blank
nth blank i = ap (λ l. get_or l i blank)

pub one_dist2 : (a b : Point) {n m : ℕ} {d e : Float} → Dist2 a b n d → Dist2 a b m e → (n ≡ m) × (d ≡ e)
one_dist2 a b p q = let x = answered_one p q in (x.0, nth nan 0 x.1)

pub one_circumcenter : (a b c : Point) {n m : ℕ} {x y z w : Float} → Circumcenter a b c n x y → Circumcenter a b c m z w → (n ≡ m) × (x ≡ z) × (y ≡ w)
one_circumcenter a b c p q = let x = answered_one p q in (x.0, nth nan 0 x.1, nth nan 1 x.1)

pub one_centroid : (l : List Float) {n m : ℕ} {x y z w : Float} → Centroid l n x y → Centroid l m z w → (n ≡ m) × (x ≡ z) × (y ≡ w)
one_centroid l p q = let x = answered_one p q in (x.0, nth nan 0 x.1, nth nan 1 x.1)

pub one_box : (g : Given) {n m : ℕ} {l t r b a d l' t' r' b' a' d' : Float} → Edges g n l t r b a d → Edges g m l' t' r' b' a' d'
    → (n ≡ m) × (l ≡ l') × (t ≡ t') × (r ≡ r') × (b ≡ b') × (a ≡ a') × (d ≡ d')
one_box g p q = let x = answered_one p q in (x.0, nth nan 0 x.1, nth nan 1 x.1, nth nan 2 x.1, nth nan 3 x.1, nth nan 4 x.1, nth nan 5 x.1)

pub one_box_center : (g : Given) {n m : ℕ} {x y a d x' y' a' d' : Float} → Centered g n x y a d → Centered g m x' y' a' d'
    → (n ≡ m) × (x ≡ x') × (y ≡ y') × (a ≡ a') × (d ≡ d')
one_box_center g p q = let x = answered_one p q in (x.0, nth nan 0 x.1, nth nan 1 x.1, nth nan 2 x.1, nth nan 3 x.1)

pub one_corners : {g : Given} {l : List Float} {n m : ℕ} {k o : List Float} → Corners g l n k → Corners g l m o → (n ≡ m) × (k ≡ o)
one_corners {g} {l} p q =
    let e = finds_one p.number q.number in
    (e, p.slice ∙ ap (λ (n : ℕ). pick (eqb n 0) (λ _. flat (corners_of g.bounds) ++ replicate (length l - 8) zero) (λ _. l)) e ∙ sym q.slice)

pub one_inside : (g : Given) (p : Point) {n m y z : ℕ} → Inside g p n y → Inside g p m z → (n ≡ m) × (y ≡ z)
one_inside g p a b = let x = answered_one a b in (x.0, nth 0 0 x.1)

pub one_exclusively : (g : Given) (p : Point) {n m y z : ℕ} → ExclusivelyInside g p n y → ExclusivelyInside g p m z → (n ≡ m) × (y ≡ z)
one_exclusively g p a b = let x = answered_one a b in (x.0, nth 0 0 x.1)

pub one_side : (g : Given) (p : Point) {n m s t : ℕ} → WhichEdge g p n s → WhichEdge g p m t → (n ≡ m) × (s ≡ t)
one_side g p a b = let x = answered_one a b in (x.0, nth 0 0 x.1)

-- the line and the ray
pub one_meeting : (c : BoundingBox → Point → Point → Crossing) (g : Given) (a b : Point) {n k j i : ℕ} {x y u v x' y' u' v' : Float}
    → Meets c g a b n j x y u v → Meets c g a b k i x' y' u' v'
    → (n ≡ k) × (j ≡ i) × (x ≡ x') × (y ≡ y') × (u ≡ u') × (v ≡ v')
one_meeting c g a b p q =
    let x = answered_one p.0 q.0 in
    let y = answered_one p.1 q.1 in
    (x.0, nth 0 0 x.1, nth nan 0 y.1, nth nan 1 y.1, nth nan 2 y.1, nth nan 3 y.1)

-- ---- the check of a lent mesh
module _ (m : Mesh) (old : List ℕ) where
  pub one_check : (new other : List ℕ) (r s : ℕ) → Check m old new r → Check m old other s → (r ≡ s) × (new ≡ other)
  one_check new other r s a b =
      let q = finds_one a.number b.number in
      (q, a.work ∙ ap (work_after m old) q ∙ sym b.work)

-- ---- walks, and what triangles and cells share
handed_one : {Number : ℕ → Type 0} {m : Mesh} {whole w w' w'' o o' o'' : List ℕ} {k l e f r s : ℕ}
    → ((a b : ℕ) → Number a → Number b → a ≡ b) → Handed Number m whole w w' o o' k e r
    → Handed Number m whole w w'' o o'' l f s → (r ≡ s) × (w' ≡ w'') × (o' ≡ o'') × (k ≡ l) × (e ≡ f)
handed_one {m = m} {whole} {w} {o = o} {r = r} {s} one a b =
    let q : r ≡ s = one r s a.number b.number in (
      q,
      a.work ∙ ap (work_after m w) q ∙ sym b.work,
      a.out ∙ ap (λ (n : ℕ). pick (eqb n refused_offsets) (λ _. o) (λ _. at_exit EMPTY (take (length o) whole ++ drop (length (take (length o) whole)) o) o n)) q
          ∙ sym b.out,
      a.count ∙ ap (λ (n : ℕ). pick (eqb n 0) (λ _. length (take (length o) whole)) (λ _. 0)) q ∙ sym b.count,
      a.ended ∙ ap (λ (n : ℕ). bit (pick (eqb n 0) (λ _. leb (length whole) (length o)) (λ _. false))) q ∙ sym b.ended,
    )

module _ (m : Mesh) {w w' w'' o o' o'' : List ℕ} {k l e f r s : ℕ} where
  pub one_walk : (v : ℕ) → Walk m v w w' o o' k e r → Walk m v w w'' o o'' l f s → (r ≡ s) × (w' ≡ w'')
      × (o' ≡ o'') × (k ≡ l) × (e ≡ f)
  one_walk v = handed_one (λ a b. finds_one)

  pub one_neighbours : (v : ℕ) → Neighbours m v w w' o o' k e r → Neighbours m v w w'' o o'' l f s → (r ≡ s)
      × (w' ≡ w'') × (o' ≡ o'') × (k ≡ l) × (e ≡ f)
  one_neighbours v = handed_one (λ a b. finds_one)

  pub one_path : (v : ℕ) (p : Point) → Path m v p w w' o o' k e r → Path m v p w w'' o o'' l f s → (r ≡ s)
      × (w' ≡ w'') × (o' ≡ o'') × (k ≡ l) × (e ≡ f)
  one_path v p = handed_one (λ a b. finds_one)

  pub one_clipped : (off ix : List ℕ) (v : ℕ) → ClippedNeighbours m off ix v w w' o o' k e r
      → ClippedNeighbours m off ix v w w'' o o'' l f s → (r ≡ s) × (w' ≡ w'') × (o' ≡ o'') × (k ≡ l) × (e ≡ f)
  one_clipped off ix v = handed_one (λ a b. finds_one)

pub one_shared_edge : {m : Mesh} {a b : ℕ} {w w' w'' : List ℕ} {e f r s : ℕ}
    → SharedEdge m a b w w' e r → SharedEdge m a b w w'' f s → (r ≡ s) × (w' ≡ w'') × (e ≡ f)
one_shared_edge {m} {a = a} {b} {w} x y =
    let q = finds_one x.number y.number in
    (q, x.work ∙ ap (work_after m w) q ∙ sym y.work, x.edge ∙ ap (λ n. pick (eqb n 0) (λ _. shared_edge_of m.halfedges a b) (λ _. EMPTY)) q ∙ sym y.edge)

pub one_cells_share_edge : {off ix : List ℕ} {a b y z r s : ℕ} → CellsShareEdge off ix a b y r → CellsShareEdge off ix a b z s → (r ≡ s) × (y ≡ z)
one_cells_share_edge {off} {ix} {a} {b} x v =
    let q = finds_one x.number v.number in
    (q, x.answer ∙ ap (λ n. bit (pick (eqb n 0) (λ _. share_edge_of off ix a b) (λ _. false))) q ∙ sym v.answer)

-- ---- builds and cells
module _ (m : Mesh) {old new other : Slices} {r s : ℕ} where
  pub one_build : (g : Given) → Build m g old new r → Build m g old other s → (r ≡ s) × (new ≡ other)
  one_build g = answers_one

pub one_cut : {m : Mesh} {g : Given} {old new other : CutSlices} {r s n k : ℕ} → Cut m g old new r n → Cut m g old other s k → (r ≡ s) × (new ≡ other) × (n ≡ k)
one_cut = cut_one

module _ (off ix : List ℕ) (s : ℕ) {q r : ℕ} where
  pub one_cell_part : {p o : List ℕ} → CellPart off ix s p q → CellPart off ix s o r → (q ≡ r) × (p ≡ o)
  one_cell_part x y =
      let e = cell_number off ix s x.number y.number in
      (e, x.entries ∙ ap (λ (n : ℕ). pick (eqb n 0) (λ _. cell_of off ix s) (λ _. [])) e ∙ sym y.entries)

  pub one_cell : {a b l m : ℕ} → Cell off ix s a l q → Cell off ix s b m r → (q ≡ r) × (a ≡ b) × (l ≡ m)
  one_cell x y =
      let e = cell_number off ix s x.number y.number in (
        e,
        x.from ∙ ap (λ (n : ℕ). pick (eqb n 0) (λ _. get_or off s 0) (λ _. 0)) e ∙ sym y.from,
        x.many ∙ ap (λ (n : ℕ). pick (eqb n 0) (λ _. get_or off (s + 1) 0 - get_or off s 0) (λ _. 0)) e ∙ sym y.many,
      )

-- ---- cells as polygons
module _ (off ix : List ℕ) (s : ℕ) (old : List ℕ) {new other : List ℕ} {w u q r : ℕ} where
  pub one_cell_wkb_bits : (v : List ℕ) → CellWkbBits v off ix s old new w q → CellWkbBits v off ix s old other u r → (q ≡ r) × (w ≡ u) × (new ≡ other)
  one_cell_wkb_bits v = one_wkb v off ix s old

  pub one_cell_wkb : (v : List Float) → CellWkb v off ix s old new w q → CellWkb v off ix s old other u r → (q ≡ r) × (w ≡ u) × (new ≡ other)
  one_cell_wkb v = one_wkb (patterns v) off ix s old

pub one_all_wkb : (v : List Float) (off ix st o : List ℕ) {st' st'' o' o'' : List ℕ} {w u q r : ℕ} → AllWkb v off ix st st' o o' w q → AllWkb v off ix st st'' o o'' u r
    → (q ≡ r) × (w ≡ u) × (st' ≡ st'') × (o' ≡ o'')
one_all_wkb = all-images.one_all_wkb

-- ---- reasons
pub one_why : {m : Mesh} (g : Given) (asked first second : ℕ) {old new other : Slices} {t u : ReasonNumbers}
    → Why m g asked first second old new t → Why m g asked first second old other u → (t ≡ u) × (new ≡ other)
one_why g asked first second = one_why_call

-- ---- mending
pub one_mend : (m : Mesh) {old new other : Lent} {r k p q s l u n : ℕ} → Mend m old new r k p q → Mend m old other s l u n
    → (r ≡ s) × (new ≡ other) × (k ≡ l) × (p ≡ u) × (q ≡ n)
one_mend m = mends_one m _ _ _ _ _ _ _ _ _ _ _

-- ---- forms
pub one_reader_begin : (ws : List ℕ) {v w : List ℕ} {r q : ℕ} → ReaderBegin ws v r → ReaderBegin ws w q → (r ≡ q) × (v ≡ w)
one_reader_begin = begins_one

pub one_reader_feed : (ws : List ℕ) (l : FormLists) (s : List ℕ) {v w : List ℕ} {k m : FormLists} {a b : Answer}
    → ReaderFeed ws l s v k a → ReaderFeed ws l s w m b → (a ≡ b) × (v ≡ w) × (k ≡ m)
one_reader_feed = feeds_one

pub one_reader_end : (ws : List ℕ) {v w : List ℕ} {a b : Report} → ReaderEnd ws v a → ReaderEnd ws w b → (a ≡ b) × (v ≡ w)
one_reader_end = ends_one

pub one_read_form : (l : FormLists) (s : List ℕ) {k m : FormLists} {a b : Report} → ReadForm l s k a → ReadForm l s m b → (a ≡ b) × (k ≡ m)
one_read_form = reads_one

-- ---- MultiPoints
pub one_read_multipoint : (s : List ℕ) (old : List Float) {new other : List Float} {k l q r : ℕ} → ReadMultipoint s old new k q → ReadMultipoint s old other l r
    → (q ≡ r) × (k ≡ l) × (new ≡ other)
one_read_multipoint = one_read

pub one_write_multipoint : (sites : List Float) (old : List ℕ) {new other : List ℕ} {w u q r : ℕ} → WriteMultipoint sites old new w q → WriteMultipoint sites old other u r
    → (q ≡ r) × (w ≡ u) × (new ≡ other)
one_write_multipoint = one_write

-- ---- the grid
pub one_grid_check : (m : GridMesh) {w new other : List ℕ} {r k p s l q : ℕ} → GridCheck m w new r k p → GridCheck m w other s l q
    → (r ≡ s) × (k ≡ l) × (p ≡ q) × (new ≡ other)
one_grid_check m = grid_checks_one m _ _ _ _ _ _ _ _ _

pub one_grid_nearest : (m : GridMesh) {w new other : List ℕ} {r k p u s l q v : ℕ} → GridNearest m w new r k p u → GridNearest m w other s l q v
    → (r ≡ s) × (k ≡ l) × (p ≡ q) × (u ≡ v) × (new ≡ other)
one_grid_nearest m = nearest_checks_one m _ _ _ _ _ _ _ _ _ _ _

pub one_grid_sites : (grid : List ℤ) {old new other : List Float} {r s : ℕ} → SitesOfGrid grid old new r → SitesOfGrid grid old other s → (r ≡ s) × (new ≡ other)
one_grid_sites grid = grid_sites_one grid _ _ _ _ _

-- ---- flipping
pub one_flip : (sites : ℕ) (hull : List ℕ) (a : ℕ) {old new other : FlipLists} {r s : ℕ} → Flip sites hull a old new r → Flip sites hull a old other s
    → (r ≡ s) × (new ≡ other)
one_flip sites hull a = flips_one sites hull a _ _ _ _ _

-- ---- areas
pub one_areas : (v : List Float) (off ix : List ℕ) (old : List Float) {new other : List Float} {q r : ℕ} → Areas v off ix old new q → Areas v off ix old other r
    → (q ≡ r) × (new ≡ other)
one_areas = areas.one_areas

-- ---- all gauges at once
pub one_all_neighbours : (m : Mesh) (off ix : List ℕ) {w new other st st' st'' o o' o'' : List ℕ} {q r : ℕ} → AllNeighbours m off ix w new st st' o o' q
    → AllNeighbours m off ix w other st st'' o o'' r → (q ≡ r) × (new ≡ other) × (st' ≡ st'') × (o' ≡ o'')
one_all_neighbours = bulk-neighbours.one_all_neighbours

pub one_ends : (m : Mesh) (s : ℕ) (points : List Float) {w new other o o' o'' : List ℕ} {q r : ℕ} → EndsOfPaths m s points w new o o' q → EndsOfPaths m s points w other o o'' r
    → (q ≡ r) × (new ≡ other) × (o' ≡ o'')
one_ends = bulk-ends.one_ends
