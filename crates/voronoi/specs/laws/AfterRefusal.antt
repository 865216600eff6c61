-- What the promises of these calls say where the number is not 0.
use Rattle.std.specs.Prelude.{◌≡◌, refl, false, List, [], ◌≢◌, ℕ, ◌≤◌, ◌<◌, eqb, Float, length, get_or, replicate, Ok, Err}
use Rattle.std.proofs.Common.{sym, ap, ◌∙◌, subst, ⊎_elim}
use borrow.Author.Tests.{eq-eqb, ne_eqb, lt-ltb, le-ltb}
use Rattle.base.specs.common.Binary64 as R
use Rattle.base.specs.common.Pick.{pick}
use Rattle.base.specs.common.Refusals.{Rule}
use Rattle.base.specs.common.laws.Decide.{lt_or_ge}
use Rattle.base.specs.numbers.Numbers.{EMPTY}
use Rattle.plane.specs.declared.points.Point.{Point}
use Rattle.plane.specs.declared.boxes.BoundingBox.{BoundingBox}
use Rattle.plane.specs.declared.given.Given.{Given}
use Rattle.plane.specs.declared.lines.Crossing.{Crossing}
use Rattle.plane.specs.declared.lines.Crossing.TheVariants.{None, One, Two}
use Rattle.plane.specs.rays.Rules.{values_of}
use Rattle.mesh.specs.Accepted.{Mesh}
use Rattle.mesh_check.specs.whole.AtExit.{at_exit}
use Rattle.octets.specs.Wrote.{Wrote}
use Rattle.admission.specs.Slices.{Slices}
use Rattle.mending.specs.slices.Lent.{Lent}
use Rattle.mending.specs.Mending.{when_made}
use Rattle.grid.specs.declared.scan.GridFault.TheVariants as grid
use Rattle.grid.specs.scan.Judged.{GridAnswer, grid_number, grid_kind, grid_place}
use Rattle.grid.specs.check.Promise.{GridMesh, grid_work}
use Rattle.grid.specs.declared.nearest.NearestFault.TheVariants.{Grid, Hull}
use Rattle.grid.specs.nearest.Judged.{NearestAnswer, nearest_number, nearest_kind, nearest_place}
use Rattle.areas.specs.Promise.{areas_after}
use Rattle.auditing.specs.Promise.{unless_refused, share_unless_refused}
use Rattle.reasons.specs.declared.ReasonNumbers.{ReasonNumbers}
use Rattle.reader.specs.Calls.{FormLists, roomy, AtBegin, AtFeed, AtEnd, AtRead, begin_call, feed_call, end_call, read_call}
use Rattle.reader.specs.declared.answers.Answer.{Answer}
use Rattle.reader.specs.declared.answers.Report.{Report}
use Rattle.walks.specs.shared.Cells.{cell_of}
use Rattle.wkb.specs.Polygon.{patterns}
use Rattle.wkb.specs.Promise.{image}
use Rattle.wkb.specs.multipoint_writer.Promise.{file_of}
use Rattle.plane.specs.lines.Line.{line_of}
use Rattle.plane.specs.rays.Ray.{ray_of}
use Rattle.plane_calls.specs.Plane.{Answered, bit}
use Rattle.voronoi.specs.Plane.{Meets}
use Rattle.voronoi.specs.Walks.{CellsShareEdge}
use Rattle.voronoi.specs.Explanations.{Why}
use Rattle.voronoi.specs.Mends.{Mend}
use Rattle.voronoi.specs.Forms.{ReaderBegin, ReaderFeed, ReaderEnd, ReadForm}
use Rattle.voronoi.specs.Grids.{GridCheck, GridNearest}
use Rattle.voronoi.specs.Sizes.{Areas}
use Rattle.voronoi.specs.Audits.{Audit}
use Rattle.voronoi.specs.Certificates.{Certify}
use Rattle.voronoi.specs.Outcomes.{SliceRefused, BuildRefused}
use Rattle.voronoi.specs.AfterRefusal.{MendRefused, GridRefused, AuditRefused, CertifyRefused, AfterRefusal}
use Rattle.voronoi.specs.laws.Refused.{slice_refused, slices_refused}

-- what stands beside a number that is not 0
pub otherwise : {A : Type 0} (a b : A) (r : ℕ) → r ≢ 0 → pick (eqb r 0) (λ _. a) (λ _. b) ≡ b
otherwise a b r n = rw (ne_eqb r 0 n)

-- lent numbers: blank
pub blanks : {A : Type 0} {rules : List (Rule ℕ)} {blank : A} {made : List A} {r : ℕ} {out : List A} → Answered rules blank made r out → r ≢ 0
    → out ≡ replicate (length made) blank
blanks {blank = blank} {made} {r} a n = a.values ∙ otherwise made (replicate (length made) blank) r n

-- place k of such a list
pub blank_at : {A : Type 0} {a b : List A} (k : ℕ) (z : A) → a ≡ b → get_or a k z ≡ get_or b k z
blank_at k z q = ap (λ l. get_or l k z) q

pub not_yes : {off ix : List ℕ} {a b y r : ℕ} → CellsShareEdge off ix a b y r → r ≢ 0 → y ≡ 0
unfolding bit
not_yes {r = r} x n = x.answer ∙ rw (ne_eqb r 0 n)

-- a text that is empty beside a number that is not 0
pub nothing_written : (text : List ℕ) {old new : List ℕ} {k : ℕ} (r : ℕ) → Wrote old new 0 k (pick (eqb r 0) (λ _. text) (λ _. [])) → r ≢ 0 → (new ≡ old) × (k ≡ 0)
nothing_written text {old} {new} {k} r w n =
    let x = subst (λ (t : List ℕ). Wrote old new 0 k t) (otherwise text [] r n) w in (x.list, x.place)

pub why_refused : {m : Mesh} (g : Given) (asked first second : ℕ) {old new : Slices} {t : ReasonNumbers} → Why m g asked first second old new t → t.number ≢ 0
    → BuildRefused old new t.number
why_refused g asked first second {old} {new} a n =
    let q = ap (λ (t : ReasonNumbers). t.number) a.told in
    subst (λ (r : ℕ). BuildRefused old new r) (sym q) (slices_refused a.why.slices (λ e. n (q ∙ e)))

pub mend_refused : {m : Mesh} {old new : Lent} {r k p q : ℕ} → Mend m old new r k p q → r ≢ 0 → MendRefused old new r k p q
unfolding when_made
mend_refused {r = r} a n =
    let x = a.outcome in
    record {
      work = slice_refused EMPTY _ _ _ _ n x.work;
      pairs = slice_refused EMPTY _ _ _ _ n x.pairs;
      mended = slice_refused EMPTY _ _ _ _ n x.mended;
      changes = slice_refused EMPTY _ _ _ _ n x.changes;
      hull_length = x.hull_length ∙ otherwise _ 0 r n;
      pair_changes_lem = x.pair_changes_lem ∙ otherwise _ 0 r n;
      hull_changes_lem = x.hull_changes_lem ∙ otherwise _ 0 r n;
    }

-- ---- the grid
module _ (m : GridMesh) (old : List ℕ) (r : ℕ) where
  grid_kept : r ≡ 22 → grid_work m old r ≡ old
  unfolding grid_work
  grid_kept e = rw (eq-eqb r 22 e)

  grid_refused : {new : List ℕ} → r ≢ 0 → new ≡ grid_work m old r → r ≢ 22 → SliceRefused EMPTY old new r
  unfolding grid_work at_exit
  grid_refused n q d = record {
    kept = λ l. q ∙ rw (ne_eqb r 22 d, ne_eqb r 0 n, lt-ltb r 7 l);
    cleared = λ l. q ∙ rw (ne_eqb r 22 d, ne_eqb r 0 n, le-ltb r 7 l);
  }

grid_silent : (a : GridAnswer) → grid_number a ≢ 0 → (grid_kind a ≡ EMPTY) × (grid_place a ≡ EMPTY)
grid_silent (Ok _) n = absurd (n refl)
grid_silent (Err (grid.Triangle t)) n = absurd (n refl)
grid_silent (Err (grid.Halfedge e)) n = absurd (n refl)
grid_silent (Err (grid.Refused k)) n = (refl, refl)

nearest_silent : (a : NearestAnswer) → nearest_number a ≢ 0 → (nearest_kind a ≡ EMPTY) × (nearest_place a ≡ EMPTY)
nearest_silent (Ok _) n = absurd (n refl)
nearest_silent (Err (Grid f)) n = grid_silent (Err f) n
nearest_silent (Err (Hull f)) n = absurd (n refl)

pub check_refused : (g : GridMesh) {w w' : List ℕ} {r k p : ℕ} → GridCheck g w w' r k p → r ≢ 0 → GridRefused w w' r k p
check_refused g {w} {r = r} x n =
    let s = grid_silent x.answer (λ e. n (x.number ∙ e)) in
    record { work = grid_refused g w r n x.work; kept_22 = λ e. x.work ∙ grid_kept g w r e; kind = x.kind_is ∙ s.0; place = x.at_place ∙ s.1 }

pub nearest_refused : (g : GridMesh) {w w' : List ℕ} {r k p u : ℕ} → GridNearest g w w' r k p u → r ≢ 0 → GridRefused w w' r k p × (u ≡ EMPTY)
nearest_refused g {w} {r = r} x n =
    let s = nearest_silent x.answer (λ e. n (x.number ∙ e)) in
    (record { work = grid_refused g w r n x.work; kept_22 = λ e. x.work ∙ grid_kept g w r e; kind = x.kind_is ∙ s.0; place = x.at_place ∙ s.1 }, x.none_told n)

pub areas_refused : (v : List Float) (off ix : List ℕ) {old new : List Float} {r : ℕ} → Areas v off ix old new r → r ≢ 0 → new ≡ old
unfolding areas_after
areas_refused v off ix {old} {r = r} a n = a.areas ∙ otherwise _ old r n

blank_number : (r x : ℕ) → r ≢ 0 → unless_refused r x ≡ EMPTY
unfolding unless_refused
blank_number r x n = otherwise x EMPTY r n

blank_share : (r : ℕ) (x : Float) → r ≢ 0 → share_unless_refused r x ≡ R.zero
unfolding share_unless_refused
blank_share r x n = otherwise x R.zero r n

pub audit_refused : (g : Given) (sites v : List Float) (off ix starts others : List ℕ) (bits : ℕ) {r k s e o : ℕ} {share : Float}
    → Audit g sites v off ix starts others bits r k s e o share → r ≢ 0 → AuditRefused k s e o share
audit_refused g sites v off ix starts others bits {r} a n = record {
  kind = a.kind_is ∙ blank_number r _ n;
  site = a.site_is ∙ blank_number r _ n;
  vertex = a.vertex_is ∙ blank_number r _ n;
  other = a.other_is ∙ blank_number r _ n;
  missing = a.missing_is ∙ blank_share r _ n;
}

pub certify_refused : (g : Given) (sites v : List Float) (off ix : List ℕ) (bits : ℕ) {w w' : List ℕ} {r k s e o : ℕ}
    → Certify g sites v off ix bits w w' r k s e o → r ≢ 0 → CertifyRefused w w' r k s e o
certify_refused g sites v off ix bits {w} {w'} {r} a n = record {
  kind = a.kind_is ∙ blank_number r _ n;
  site = a.site_is ∙ blank_number r _ n;
  vertex = a.vertex_is ∙ blank_number r _ n;
  other = a.other_is ∙ blank_number r _ n;
  work = slice_refused EMPTY _ w w' r n a.work_is;
}

-- ---- the reader
pub begin_refused : (ws : List ℕ) {ws' : List ℕ} {r : ℕ} → ReaderBegin ws ws' r → r ≢ 0 → (r ≡ 2) × (ws' ≡ ws)
unfolding begin_call
begin_refused ws {ws'} {r} q n = ⊎_elim short long (lt_or_ge (length ws) 16)
  where
    short : length ws < 16 → (r ≡ 2) × (ws' ≡ ws)
    short l = let e = rw (lt-ltb (length ws) 16 l) at q in (ap (λ (x : AtBegin). x.number) e, ap (λ (x : AtBegin). x.words) e)

    long : 16 ≤ length ws → (r ≡ 2) × (ws' ≡ ws)
    long l = let e = rw (le-ltb (length ws) 16 l) at q in absurd (n (ap (λ (x : AtBegin). x.number) e))

pub feed_refused : (ws : List ℕ) (l : FormLists) (s : List ℕ) {ws' : List ℕ} {l' : FormLists} {a : Answer} → ReaderFeed ws l s ws' l' a
    → ((length ws < 16) → (a.number ≡ 2) × (ws' ≡ ws) × (l' ≡ l)) × (roomy l ≡ false → (a.number ≡ 2) × (ws' ≡ ws) × (l' ≡ l))
unfolding feed_call
feed_refused ws l s {ws'} {l'} {a} q = (short, λ h. ⊎_elim short (λ k. narrow h k) (lt_or_ge (length ws) 16))
  where
    short : length ws < 16 → (a.number ≡ 2) × (ws' ≡ ws) × (l' ≡ l)
    short k = let e = rw (lt-ltb (length ws) 16 k) at q in (ap (λ (x : AtFeed). x.answer.number) e, ap (λ (x : AtFeed). x.words) e, ap (λ (x : AtFeed). x.form_lists) e)

    narrow : roomy l ≡ false → 16 ≤ length ws → (a.number ≡ 2) × (ws' ≡ ws) × (l' ≡ l)
    narrow h k =
        let e = rw (le-ltb (length ws) 16 k, h) at q in (ap (λ (x : AtFeed). x.answer.number) e, ap (λ (x : AtFeed). x.words) e, ap (λ (x : AtFeed). x.form_lists) e)

pub end_refused : (ws : List ℕ) {ws' : List ℕ} {t : Report} → ReaderEnd ws ws' t → length ws < 16 → (t.number ≡ 2) × (ws' ≡ ws)
unfolding end_call
end_refused ws q k = let e = rw (lt-ltb (length ws) 16 k) at q in (ap (λ (x : AtEnd). x.report.number) e, ap (λ (x : AtEnd). x.words) e)

pub read_refused : (l : FormLists) (s : List ℕ) {l' : FormLists} {t : Report} → ReadForm l s l' t → roomy l ≡ false → (t.number ≡ 2) × (l' ≡ l)
unfolding read_call
read_refused l s q h = let e = rw h at q in (ap (λ (x : AtRead). x.report.number) e, ap (λ (x : AtRead). x.form_lists) e)

-- ---- what meets the box: four coordinates, however many points there are
four_values : (c : Crossing) → length (values_of c) ≡ 4
four_values None = refl
four_values (One x y) = refl
four_values (Two x y u v) = refl

-- ---- gathered
pub after_refusal : (m : Mesh) → AfterRefusal m
after_refusal m = record {
  dist2 = λ a b x n. blank_at 0 R.zero (blanks x n);
  circumcenter = λ a b c x n. let q = blanks x n in (blank_at 0 R.zero q, blank_at 1 R.zero q);
  centroid = λ l x n. let q = blanks x n in (blank_at 0 R.zero q, blank_at 1 R.zero q);
  box = λ g x n. let q = blanks x n in (blank_at 0 R.zero q, blank_at 1 R.zero q, blank_at 2 R.zero q, blank_at 3 R.zero q, blank_at 4 R.zero q, blank_at 5 R.zero q);
  box_center = λ g x n. let q = blanks x n in (blank_at 0 R.zero q, blank_at 1 R.zero q, blank_at 2 R.zero q, blank_at 3 R.zero q);
  corners = λ g {before} {after} {r} x n. x.slice ∙ otherwise _ before r n;
  is_inside = λ g p x n. blank_at 0 0 (blanks x n);
  is_exclusively_inside = λ g p x n. blank_at 0 0 (blanks x n);
  which_edge = λ g p x n. blank_at 0 0 (blanks x n);
  intersect_line = λ g p q x n. meets line_of g p q x n;
  project_ray = λ g p q x n. meets ray_of g p q x n;
  shared_edge = λ a b {w} {w'} {e} {r} x n. x.edge ∙ otherwise _ EMPTY r n;
  cells_share_edge = λ off ix a b x n. not_yes x n;
  cell = λ off ix s {start} {long} {r} x n. (x.from ∙ otherwise _ 0 r n, x.many ∙ otherwise _ 0 r n);
  cell_part = λ off ix s {part} {r} x n. x.entries ∙ otherwise _ [] r n;
  why = why_refused;
  cell_wkb_bits = λ v off ix s {out} {new} {k} {r} x n. nothing_written (image v (cell_of off ix s)) r x.output n;
  cell_wkb = λ v off ix s {out} {new} {k} {r} x n. nothing_written (image (patterns v) (cell_of off ix s)) r x.output n;
  mend = mend_refused;
  read_multipoint = λ s {old} {new} {k} {r} x n. (x.sites ∙ otherwise _ old r n, x.counted ∙ otherwise _ 0 r n);
  write_multipoint = λ sites {old} {new} {k} {r} x n. nothing_written (file_of sites) r x.output n;
  grid_check = check_refused;
  grid_nearest = nearest_refused;
  grid_sites_lem = λ grid {old} {new} {r} x n. x.sites ∙ otherwise _ old r n;
  areas = areas_refused;
  audit = audit_refused;
  certify = certify_refused;
  reader_begin = begin_refused;
  reader_feed = feed_refused;
  reader_end = end_refused;
  read_form_lem = read_refused;
}
  where
    meets : (crossing : BoundingBox → Point → Point → Crossing) (g : Given) (p q : Point) {r k : ℕ} {x y u v : Float} → Meets crossing g p q r k x y u v → r ≢ 0
        → (k ≡ 0) × (x ≡ R.zero) × (y ≡ R.zero) × (u ≡ R.zero) × (v ≡ R.zero)
    meets crossing g p q x n =
        let z = blanks x.1 n ∙ ap (λ (k : ℕ). replicate k R.zero) (four_values (crossing g.bounds p q)) in
        (blank_at 0 0 (blanks x.0 n), blank_at 0 R.zero z, blank_at 1 R.zero z, blank_at 2 R.zero z, blank_at 3 R.zero z)
