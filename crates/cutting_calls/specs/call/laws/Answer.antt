-- From the rules up to 10 and what comes of the circumcenters to the promise: refused early; refused by 11 or 25, all is cleared; or cut. And no two answers are allowed.
use Rattle.std.specs.Prelude.{◌≡◌, true, List, [], ◌++◌, ◌≢◌, ℕ, ◌/◌, ◌≤◌, eqb, ltb, Float, take, replicate}
use Rattle.std.proofs.Math.Path.{refl, sym}
use Rattle.std.proofs.Common.{ap, subst, ◌∙◌, ⊎_elim, arith, eq-eqb, ne_eqb, lt-ltb}
use Rattle.std.proofs.Math.Nat.{sub-zero}
use Rattle.std.proofs.Math.ListN.{length}
use Rattle.base.specs.common.Pick.{pick}
use Rattle.base.specs.common.Refusals.{Finds}
use Rattle.base.specs.common.laws.Decide.{eq_or_ne}
use Rattle.base.specs.common.laws.Refusals.{finds_one, finds_keep, finds_first, finds_after}
use Rattle.base.specs.common.Binary64.{zero}
use Rattle.base.specs.numbers.Numbers.{EMPTY, refused_triangle}
use Rattle.plane.specs.points.Flat.{pour}
use Rattle.plane.specs.declared.given.Given.{Given}
use Rattle.mesh.specs.Mesh.{leftmost_in}
use Rattle.mesh.specs.Rules.{call_rules}
use Rattle.mesh.specs.Accepted.{Mesh, table_of, Accepted, site_count}
use Rattle.mesh.specs.laws.Facts.{topology, tab_length, entry_site}
use Rattle.mesh_check.specs.whole.AtExit.{at_exit}
use Rattle.mesh_check.specs.whole.laws.AtExit.{exit_made, exit_blank}
use Rattle.cell_memory.specs.layout.Cleared.{padded}
use Rattle.arguments.specs.asking.Asks.{box_rules, Asked}
use Rattle.arguments.specs.asking.laws.Asks.{box_answers}
use Rattle.admission.specs.Admits.{asked_rules, Admits}
use Rattle.admission.specs.laws.Admits.{finds_asked, asked_answers, admitted, admits_keep, admits_own}
use Rattle.admission.specs.laws.LeftmostTable.{table_long, table_part}
use Rattle.cell_builder.specs.rings.Centers.{Named}
use Rattle.cutting_calls.specs.cut_admission.CutSlices.{CutSlices, cut_slices, cut_room_of}
use Rattle.cutting_calls.specs.cut_admission.CutAdmission.{CutAdmission}
use Rattle.cutting_calls.specs.cut_admission.laws.CutRoom.{CutGranted, cut_granted}
use Rattle.cutting_laws.specs.fit.laws.Room.{roomy_start}
use Rattle.cutting_calls.specs.call.Promise.{CutDone, cut_number, cut_of, CutAnswer}
use Rattle.cutting_calls.specs.call.Steps.{Meshed, CutMesh, InOrder}

module _ (g : Given) {m : Mesh} {asked : ℕ} {old new : CutSlices} {r : ℕ} (a : CutAdmission m asked old new r) (ask : Asked (box_rules g.sound) asked) where
  own_admits : Admits m (cut_room_of m old) (box_rules g.sound) r
  own_admits = admits_own (box_rules g.sound) (box_answers g.sound) ask.found a.admission.number

  pub cut_early : r ≢ 0 → CutAnswer m g old new r 0
  unfolding at_exit
  cut_early n = record {
    number = finds_first (asked_rules (cut_number m g.bounds old.vertices)) n own_admits.found;
    work = a.admission.work ∙ rw (ne_eqb r 0 n);
    vertices = a.vertices ∙ rw (ne_eqb r 0 n);
    indexes = a.indexes ∙ rw (ne_eqb r 0 n);
    offsets = a.offsets ∙ rw (ne_eqb r 0 n);
    counted = rw (ne_eqb r 0 n) refl;
  }

  module _ (z : r ≡ 0) where
    pub mesh_of_lem : Accepted m
    mesh_of_lem = (admitted (asked_answers asked) a.admission.number z).accepted

    pub granted_of : CutGranted (site_count m.sites) (length m.triangles / 3) (length m.hull) (length old.work) (length old.vertices) (length old.indexes) (length old.offsets)
    granted_of = cut_granted _ _ _ _ _ _ _ (admitted (asked_answers asked) a.admission.number z).roomed

    small : ltb r refused_triangle ≡ true
    small = lt-ltb r refused_triangle (omega arith)

    pub same_vertices : new.vertices ≡ old.vertices
    same_vertices = a.vertices ∙ rw small

    pub same_indexes : new.indexes ≡ old.indexes
    same_indexes = a.indexes ∙ rw small

    pub same_offsets : new.offsets ≡ old.offsets
    same_offsets = a.offsets ∙ rw small

    table_of_lem : new.work ≡ leftmost_in m.triangles m.halfedges (site_count m.sites) (length old.work)
    table_of_lem = a.admission.work ∙ exit_made EMPTY (leftmost_in m.triangles m.halfedges (site_count m.sites) (length old.work)) old.work r z

    long_of : length new.work ≡ length old.work
    long_of = ap length table_of_lem ∙ table_long m.triangles m.halfedges m.hull (site_count m.sites) (topology mesh_of_lem) (length old.work) granted_of.table

    pub table_fits : site_count m.sites ≤ length new.work
    table_fits = rw long_of granted_of.table

    pub table_is : take (site_count m.sites) new.work ≡ table_of m
    table_is = ap (take (site_count m.sites)) table_of_lem ∙ table_part m.triangles m.halfedges m.hull (site_count m.sites) (topology mesh_of_lem) (length old.work) granted_of.table

    pub sites_named : Named m.sites m.triangles
    sites_named k h = omega (arith, entry_site (topology mesh_of_lem) k h, mesh_of_lem.counts.even)

    -- what comes of the circumcenters, on the slices as they were lent
    module _ {d : CutDone} {w : List ℕ} {v : List Float} {ix off : List ℕ}
        (x : CutMesh g.bounds m.sites m.triangles m.halfedges m.hull (table_of m) old.vertices old.indexes old.offsets d v ix off)
        (cleared : w ≡ pick (eqb d.number 0) (λ _. new.work) (λ _. replicate (length new.work) EMPTY))
      where
        number_is : d.number ≡ cut_number m g.bounds old.vertices
        unfolding cut_number
        number_is = x.number

        found : Finds (call_rules m (cut_room_of m old ≡ true) (box_rules g.sound) ++ asked_rules (cut_number m g.bounds old.vertices)) 0 d.number
        found =
            subst (λ (n : ℕ). Finds (call_rules m (cut_room_of m old ≡ true) (box_rules g.sound) ++ asked_rules (cut_number m g.bounds old.vertices)) 0 n) (sym number_is)
            (finds_after (call_rules m (cut_room_of m old ≡ true) (box_rules g.sound)) (admits_keep (box_answers g.sound) own_admits z)
            (finds_asked (cut_number m g.bounds old.vertices)))

        blanked : {A : Type 0} (blank : A) (made l : List A) → refused_triangle ≤ d.number → padded (length l) blank [] ≡ at_exit blank made l d.number
        blanked blank made l h = let q : padded (length l) blank [] ≡ replicate (length l) blank = rw sub-zero refl in q ∙ sym (exit_blank blank made l d.number h)

        zeroed : d.number ≡ 0 → CutAnswer m g old (cut_slices w v ix off) d.number d.count
        unfolding cut_of
        zeroed e =
            let y = x.made e in
            let long : length (table_of m) ≡ site_count m.sites = tab_length (topology mesh_of_lem) in
            let kept : w ≡ new.work = rw (eq-eqb d.number 0 e) at cleared in
            let table : leftmost_in m.triangles m.halfedges (site_count m.sites) (length old.work) ≡ padded (length old.work) EMPTY (table_of m) = rw long refl in
            record {
              number = found;
              work = kept ∙ table_of_lem ∙ table ∙ sym (exit_made EMPTY (padded (length old.work) EMPTY (table_of m)) old.work d.number e);
              vertices = y.vertices ∙ sym (exit_made zero _ old.vertices d.number e);
              indexes = y.indexes ∙ sym (exit_made EMPTY _ old.indexes d.number e);
              offsets = (rw long at y.offsets) ∙ sym (exit_made EMPTY _ old.offsets d.number e);
              counted = rw (eq-eqb d.number 0 e) y.count;
            }

        refused : d.number ≢ 0 → CutAnswer m g old (cut_slices w v ix off) d.number d.count
        refused n =
            let y = x.none n in
            let h = x.late n in
            let blank : w ≡ replicate (length new.work) EMPTY = rw (ne_eqb d.number 0 n) at cleared in
            record {
              number = found;
              work = blank ∙ ap (λ (k : ℕ). replicate k EMPTY) long_of ∙ sym (exit_blank EMPTY (padded (length old.work) EMPTY (table_of m)) old.work d.number h);
              vertices = y.vertices ∙ blanked zero _ old.vertices h;
              indexes = y.indexes ∙ blanked EMPTY _ old.indexes h;
              offsets = y.offsets ∙ blanked EMPTY _ old.offsets h;
              counted = rw (ne_eqb d.number 0 n) y.none;
            }

        pub cut_made : CutAnswer m g old (cut_slices w v ix off) d.number d.count
        cut_made = ⊎_elim zeroed refused (eq_or_ne d.number 0)

-- the same on the slices as they are once the mesh is admitted
module _ (g : Given) {m : Mesh} {asked : ℕ} {old new : CutSlices} {r : ℕ} (a : CutAdmission m asked old new r) (ask : Asked (box_rules g.sound) asked) (z : r ≡ 0) where
  sound_of : g.sound ≡ true
  sound_of = (finds_keep (λ k. k ≡ 0) (box_answers g.sound) (admitted (asked_answers asked) a.admission.number z).fit.0 ask.found).0

  pub cut_asks : InOrder g → Meshed g.bounds m.sites m.triangles m.halfedges m.hull (take (site_count m.sites) new.work) new.vertices new.indexes new.offsets
  cut_asks ordered =
      let k = granted_of g a ask z in
      let ok = mesh_of_lem g a ask z in
      rw (table_is g a ask z, same_vertices g a ask z, same_indexes g a ask z, same_offsets g a ask z)
      (record {
        named = sites_named g a ask z;
        room = omega (arith, k.vertices);
        cuttable = λ centers q long once. record {
          thirds = omega (arith, ok.counts.same, ok.counts.threes);
          small = omega (arith, ok.counts.same, ok.counts.few_triangles);
          few = rw (tab_length (topology ok)) (omega (arith, ok.counts.few_sites));
          corners = omega (arith, long, k.vertices);
          one_more = rw (tab_length (topology ok)) k.one_more;
          room = roomy_start m g.bounds ok (ordered sound_of) (pour centers old.vertices) old.indexes old.offsets (omega (arith, long, k.vertices)) k.entries once;
        };
      })

  pub cut_done : {d : CutDone} {w : List ℕ} {v : List Float} {ix off : List ℕ}
      → CutMesh g.bounds m.sites m.triangles m.halfedges m.hull (take (site_count m.sites) new.work) new.vertices new.indexes new.offsets d v ix off
      → w ≡ pick (eqb d.number 0) (λ _. new.work) (λ _. replicate (length new.work) EMPTY) → CutAnswer m g old (cut_slices w v ix off) d.number d.count
  cut_done x c = cut_made g a ask z (rw (table_is g a ask z, same_vertices g a ask z, same_indexes g a ask z, same_offsets g a ask z) at x) c

slice_one : {A : Type 0} (blank : A) (made old : List A) {new other : List A} {r s : ℕ} → r ≡ s → new ≡ at_exit blank made old r → other ≡ at_exit blank made old s → new ≡ other
slice_one blank made old q a b = a ∙ ap (at_exit blank made old) q ∙ sym b

-- no two answers are allowed for one input
pub cut_one : {m : Mesh} {g : Given} {old new other : CutSlices} {r s n k : ℕ} → CutAnswer m g old new r n → CutAnswer m g old other s k → (r ≡ s) × (new ≡ other) × (n ≡ k)
cut_one {m} {g} {old} {new} {other} {r} {s} {n} {k} a b =
    let q : r ≡ s = finds_one a.number b.number in
    let w : new.work ≡ other.work = slice_one EMPTY _ old.work q a.work b.work in
    let v : new.vertices ≡ other.vertices = slice_one zero _ old.vertices q a.vertices b.vertices in
    let x : new.indexes ≡ other.indexes = slice_one EMPTY _ old.indexes q a.indexes b.indexes in
    let f : new.offsets ≡ other.offsets = slice_one EMPTY _ old.offsets q a.offsets b.offsets in
    let c : n ≡ k = a.counted ∙ ap (λ (z : ℕ). pick (eqb z 0) (λ _. (cut_of m g.bounds old).page.pen.count) (λ _. 0)) q ∙ sym b.counted in
    (q, (λ i. cut_slices (w i) (v i) (x i) (f i)), c)
