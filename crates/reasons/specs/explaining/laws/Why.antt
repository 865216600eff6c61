-- From the steps to the promise: refused with its reason, or settled, so that what was asked can be answered over the slices.
use Rattle.std.specs.Prelude.{◌≡◌, refl, true, List, [], map, ◌≢◌, ℕ, suc, ◌+◌, ◌-◌, ◌≤◌, length, get_or, take, replicate}
use Rattle.std.proofs.Common.{sym, ap, ◌∙◌, subst, ⊎_elim, add-one, arith, length-append, length-take, take_at, length-take-le}
use Rattle.std.proofs.lemmas.List.{length-replicate}
use Rattle.base.specs.common.Refusals.{Rule, Keep}
use Rattle.base.specs.common.laws.Decide.{lt_or_ge}
use Rattle.base.specs.common.laws.Refusals.{finds_first}
use Rattle.base.specs.numbers.Numbers.{EMPTY, refused_triangle}
use Rattle.mesh.specs.Mesh.{leftmost_in}
use Rattle.mesh.specs.Accepted.{Mesh, table_of, Accepted, site_count}
use Rattle.mesh.specs.laws.Facts.{topology, tab_length}
use Rattle.mesh_check.specs.whole.laws.AtExit.{exit_held, exit_blank}
use Rattle.definition.specs.declared.Fault.{Fault}
use Rattle.definition.specs.Fault.{Outcome, ok, refused}
use Rattle.definition.specs.Build.{Built}
use Rattle.definition.specs.laws.Gives.{Gives, gives_ok}
use Rattle.definition.specs.Cell.{unmarked}
use Rattle.cell_memory.specs.layout.Regions.{joined, offsets_from}
use Rattle.cell_memory.specs.layout.Cleared.{padded}
use Rattle.cell_memory.specs.outputs.Outputs.{fault_of}
use Rattle.walks.specs.shared.Cells.{cell_of}
use Rattle.arguments.specs.asking.Asks.{Asked}
use Rattle.admission.specs.Admits.{asked_rules}
use Rattle.admission.specs.Slices.{Slices, room_of}
use Rattle.admission.specs.Admission.{BuildAdmission}
use Rattle.admission.specs.laws.Admits.{asked_answers, admitted, admits_rules}
use Rattle.admission.specs.laws.BuildRoom.{granted}
use Rattle.building.specs.answers.Promise.{BuildAnswer, BuildAnswers}
use Rattle.build_laws.specs.Late.{Refuses, Numbered}
use Rattle.building.specs.answers.laws.BuildAnswer.{mesh_of_lem, fit_of}
use Rattle.building.specs.answers.laws.Left.{left_work, left_indexes, left_offsets}
use Rattle.reasons.specs.declared.Question.{Question}
use Rattle.reasons.specs.declared.Reason.{Reason}
use Rattle.reasons.specs.Reason.{of_fault, told_by}
use Rattle.reasons.specs.Answer.{answer_to, Askable, SitesBelow}
use Rattle.reasons.specs.Rules.{answered, ReasonFor}
use Rattle.reasons.specs.explaining.Promise.{WhyAnswer}
use Rattle.reasons.specs.explaining.Steps.{Located, Explains, early, built}
use Rattle.reasons.specs.explaining.laws.Asked.{OwnRules, asked_keep}
use Rattle.reasons.specs.explaining.laws.Early.{Reasoned, early_reason, early_slices}
use Rattle.reasons.specs.explaining.laws.Built.{fault_number, answer_number, met_reason, asked_reason}
use Rattle.reasons.specs.explaining.laws.Answered.{askable, answer_is, heads_long}

-- the slices by their number, however it came about
renumbered : {N : ℕ → Type 0} {table : List ℕ} {o : Outcome Fault Built} {old new : Slices} {n m : ℕ} → m ≡ n → BuildAnswer N table o old new n
    → BuildAnswer (λ k. k ≡ m) table o old new m
renumbered {table = table} {o} {old} {new} {n} {m} q b =
    subst (λ (k : ℕ). BuildAnswer (λ j. j ≡ m) table o old new k) (sym q)
    (record { number = sym q; work = b.work; vertices = b.vertices; indexes = b.indexes; offsets = b.offsets; counts = b.counts })

-- nothing is refused: what was built, and the slices
pub record NothingRefused (m : Mesh) (own : List (Rule ℕ)) (o : Outcome Fault Built) (old new : Slices) : Type 0 where
  pub mesh : Accepted m
  pub room : room_of m old ≡ true
  pub kept : Keep own
  pub value : Built
  pub is : o ≡ ok value
  pub slices : BuildAnswer (λ k. k ≡ 0) (table_of m) o old new 0

module _ (m : Mesh) {asked : ℕ} (old : Slices) (own : List (Rule ℕ)) (rules : OwnRules own) (ask : Asked own asked) where
  room_fits : {mid : Slices} {n : ℕ} → BuildAdmission m asked old mid n → n ≢ 0 → room_of m old ≡ true → site_count m.sites ≤ length mid.work
  room_fits {mid} {n} a z k =
      let g = (granted _ _ _ _ _ _ _ _ k).table in
      let t = leftmost_in m.triangles m.halfedges (site_count m.sites) (length old.work) in
      ⊎_elim
      (λ l. omega (arith, g, ap length (a.work ∙ exit_held EMPTY t old.work n z l)))
      (λ l. omega (arith, g, ap length (a.work ∙ exit_blank EMPTY t old.work n l), length-replicate (length old.work) EMPTY))
      (lt_or_ge n refused_triangle)

  reasoned : {mid : Slices} {n : ℕ} {v : List ℕ} {r : Reason} → BuildAdmission m asked old mid n → n ≢ 0 → Located m n mid.work v r
      → Reasoned m (room_of m old ≡ true) own n r
  reasoned a z l =
      early_reason m (room_of m old ≡ true) own rules z (room_fits a z) l
      (admits_rules m (room_of m old ≡ true) (λ k. (λ e. e, λ e. e)) a.number own rules.some ask.found)

  kept_of : {mid : Slices} {n : ℕ} → BuildAdmission m asked old mid n → n ≡ 0 → Keep own
  kept_of a z = asked_keep rules ask (fit_of a z)

  roomed_of : {mid : Slices} {n : ℕ} → BuildAdmission m asked old mid n → n ≡ 0 → room_of m old ≡ true
  roomed_of a z = (admitted (asked_answers asked) a.number z).roomed

module _ {m : Mesh} {asked : ℕ} {o : Outcome Fault Built} {old new : Slices} (own : List (Rule ℕ)) (rules : OwnRules own) (ask : Asked own asked) where
  pub why_refused : (q : Question) (r : Reason) → Explains m asked o old new r → (told_by r).number ≢ 0 → WhyAnswer m own q o old new r
  why_refused q r (early {mid} a z l s) n =
      let x = reasoned m old own rules ask a z l in
      record {
        reason = finds_first _ (λ e. n (ap (λ (y : Reason). (told_by y).number) e)) x.found;
        slices = early_slices m asked old mid a z o new x.number l s;
      }
  why_refused q r (built {mid} {n} a z b) nz = go o refl b
    where
      go : (p : Outcome Fault Built) → o ≡ p → BuildAnswers m (asked_rules asked) o old new (fault_of o).number → WhyAnswer m own q o old new (of_fault (fault_of o))
      go (ok v) e b = absurd (nz (fault_number (fault_of o) ∙ ap (λ (y : Outcome Fault Built). (fault_of y).number) e))
      go (refused f) e b = record {
        reason = subst (λ (y : Fault). ReasonFor m (room_of m old ≡ true) own q o (of_fault y)) (sym (ap fault_of e))
            (met_reason m (room_of m old ≡ true) own (mesh_of_lem a z) (roomed_of m old own rules ask a z)
            (kept_of m old own rules ask a z) q o f e);
        slices = renumbered (fault_number (fault_of o)) b;
      }

  pub why_settled : Refuses Numbered o → (r : Reason) → Explains m asked o old new r → (told_by r).number ≡ 0 → NothingRefused m own o old new
  why_settled late r (early a z l s) n = absurd (z (sym (reasoned m old own rules ask a z l).number ∙ n))
  why_settled late r (built a z b) n = go o refl late b
    where
      go : (p : Outcome Fault Built) → o ≡ p → Refuses Numbered p → BuildAnswers m (asked_rules asked) o old new (fault_of o).number → NothingRefused m own o old new
      go (refused f) e l b = absurd (omega (arith, l.least, ap (λ (y : Outcome Fault Built). (fault_of y).number) e, sym (fault_number (fault_of o)) ∙ n))
      go (ok v) e l b = record {
        mesh = mesh_of_lem a z;
        room = roomed_of m old own rules ask a z;
        kept = kept_of m old own rules ask a z;
        value = v;
        is = e;
        slices = renumbered (sym (ap (λ (y : Outcome Fault Built). (fault_of y).number) e)) b;
      }

-- ---- what was asked, over the slices
module _ {m : Mesh} {own : List (Rule ℕ)} {o : Outcome Fault Built} {old new : Slices} (s : NothingRefused m own o old new)
    (many : Gives (λ (b : Built). length b.cells ≡ site_count m.sites) o) where
  abbrev n : ℕ
  n = site_count m.sites

  cells_many : length s.value.cells ≡ n
  cells_many = gives_ok (λ (b : Built). length b.cells ≡ n) many s.is

  at_offsets : new.offsets ≡ padded (length old.offsets) EMPTY (offsets_from 0 (map unmarked s.value.cells))
  at_offsets = left_offsets s.slices s.value s.is

  at_indexes : new.indexes ≡ padded (length old.indexes) EMPTY (joined (map unmarked s.value.cells))
  at_indexes = left_indexes s.slices s.value s.is

  table_there : take n new.work ≡ table_of m
  table_there = rw (left_work s.slices) (take_at (table_of m) _ n (tab_length (topology s.mesh)))

  pub settled_work_lem : n ≤ length new.work
  settled_work_lem =
      omega (arith, ap length (left_work s.slices), length-append (table_of m) (replicate (length old.work - length (table_of m)) EMPTY), tab_length (topology s.mesh))

  pub settled_below : (q : Question) → SitesBelow n q → SitesBelow (length (take n new.work)) q
  settled_below q b = subst (λ (k : ℕ). SitesBelow k q) (sym (length-take-le n new.work settled_work_lem)) b

  pub settled_offsets : n + 1 ≤ length new.offsets
  settled_offsets = omega (arith, heads_long s.value.cells n cells_many new.offsets new.indexes _ _ at_offsets at_indexes, length-take (suc n) new.offsets)

  pub settled_asks : Askable m.triangles m.halfedges (take n new.work) (take (n + 1) new.offsets) new.indexes
  settled_asks = rw (add-one n) (askable s.value.cells n cells_many new.offsets new.indexes _ _ at_offsets at_indexes m.triangles m.halfedges
      m.hull (take n new.work) (topology s.mesh) table_there)

  pub why_answered : (q : Question) {r : Reason} → r ≡ answer_to m.triangles m.halfedges (take n new.work) (cell_of (take (n + 1) new.offsets) new.indexes) q
      → WhyAnswer m own q o old new r
  why_answered q {r} h =
      let cell : ℕ → List ℕ = λ k. unmarked (get_or s.value.cells k []) in
      let e : r ≡ answer_to m.triangles m.halfedges (table_of m) cell q =
      answer_is s.value.cells n cells_many new.offsets new.indexes _ _ at_offsets at_indexes m.triangles m.halfedges m.hull (take n new.work)
      (topology s.mesh) table_there q (rw (add-one n) at h) in
      let z : (told_by r).number ≡ 0 = ap (λ (y : Reason). (told_by y).number) e ∙ answer_number m.triangles m.halfedges (table_of m) cell q in
      record {
        reason = asked_reason m (room_of m old ≡ true) own s.mesh s.room s.kept q o s.value s.is (e ∙ sym (ap (answered m q) s.is));
        slices = renumbered z s.slices;
      }
