-- On what a build promises: no two outcomes are allowed for one input, and the number is that of the rules up to 10 or the build's.
use Rattle.std.specs.Prelude.{◌≡◌, refl, Bool, true, List, ◌⊎◌, ◌≢◌, ℕ, length}
use Rattle.std.proofs.Common.{sym, ap, ◌∙◌, inl, inr, ⊎_elim}
use Rattle.base.specs.common.Refusals.{Rule}
use Rattle.base.specs.common.laws.Refusals.{finds_one, finds_none, finds_first, finds_after, finds_split}
use Rattle.base.specs.common.Binary64.{zero}
use Rattle.base.specs.numbers.Numbers.{EMPTY}
use Rattle.mesh.specs.Rules.{call_rules}
use Rattle.mesh.specs.Accepted.{Mesh}
use Rattle.mesh_check.specs.whole.AtExit.{at_exit}
use Rattle.definition.specs.declared.Fault.{Fault}
use Rattle.definition.specs.Fault.{Outcome}
use Rattle.definition.specs.Build.{Built}
use Rattle.cell_memory.specs.layout.Cleared.{padded}
use Rattle.cell_memory.specs.outputs.Outputs.{fault_of}
use Rattle.admission.specs.Admits.{asked_rules, Admits}
use Rattle.admission.specs.Slices.{Slices, slices}
use Rattle.arguments.specs.asking.laws.Asks.{NoneZero}
use Rattle.admission.specs.laws.Admits.{finds_asked, asked_finds, call_answers, admits_keep}
use Rattle.building.specs.answers.Promise.{Builds, BuildAnswer, BuildAnswers}

module _ {m : Mesh} {roomy : Bool} {own : List (Rule ℕ)} {o : Outcome Fault Built} where
  pub builds_one : {r s : ℕ} → Builds m roomy own o r → Builds m roomy own o s → r ≡ s
  builds_one x y = finds_one x.found y.found

  pub early : {r : ℕ} → Admits m roomy own r → r ≢ 0 → Builds m roomy own o r
  early x n = record { found = finds_first (asked_rules (fault_of o).number) n x.found }

  pub built : NoneZero own → Admits m roomy own 0 → Builds m roomy own o (fault_of o).number
  built t x = record { found = finds_after (call_rules m (roomy ≡ true) own) (admits_keep t x refl) (finds_asked (fault_of o).number) }

  -- refused before the build, or the build's
  pub builds_cases : {r : ℕ} → NoneZero own → Builds m roomy own o r
      → (Admits m roomy own r × (r ≢ 0)) ⊎ (Admits m roomy own 0 × (r ≡ (fault_of o).number))
  builds_cases t x =
      ⊎_elim
      (λ y. inl (record { found = y.0 }, y.1))
      (λ y. inr (record { found = finds_none y.0 }, asked_finds (fault_of o).number y.1))
      (finds_split (call_rules m (roomy ≡ true) own) (asked_rules (fault_of o).number) (call_answers m (roomy ≡ true) own t) x.found)

-- a slice at exit, by the number alone
pub slice_one : {A : Type 0} (blank : A) (made old : List A) {new other : List A} {r s : ℕ} → r ≡ s → new ≡ at_exit blank made old r → other ≡ at_exit blank made old s → new ≡ other
slice_one blank made old q a b = a ∙ ap (at_exit blank made old) q ∙ sym b

pub answer_one : {Number : ℕ → Type 0} {table : List ℕ} {o : Outcome Fault Built} {old new other : Slices} {r s : ℕ}
    → ((a b : ℕ) → Number a → Number b → a ≡ b) → BuildAnswer Number table o old new r → BuildAnswer Number table o old other s → (r ≡ s) × (new ≡ other)
answer_one {table = table} {o} {old} {new} {other} {r} {s} one a b =
    let q : r ≡ s = one r s a.number b.number in
    let w : new.work ≡ other.work = slice_one EMPTY (padded (length old.work) EMPTY table) old.work q a.work b.work in
    let v : new.vertices ≡ other.vertices = slice_one zero _ old.vertices q a.vertices b.vertices in
    let x : new.indexes ≡ other.indexes = slice_one EMPTY _ old.indexes q a.indexes b.indexes in
    let f : new.offsets ≡ other.offsets = slice_one EMPTY _ old.offsets q a.offsets b.offsets in
    let c : new.counts ≡ other.counts = slice_one EMPTY _ old.counts q a.counts b.counts in
    (q, λ i. slices (w i) (v i) (x i) (f i) (c i))

pub answers_one : {m : Mesh} {own : List (Rule ℕ)} {o : Outcome Fault Built} {old new other : Slices} {r s : ℕ}
    → BuildAnswers m own o old new r → BuildAnswers m own o old other s → (r ≡ s) × (new ≡ other)
answers_one = answer_one (λ a b. builds_one)
