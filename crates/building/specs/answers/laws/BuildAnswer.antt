-- From the rules up to 10 and the build's outcome to the promise: refused early; refused by the build, all is cleared; or built.
use Rattle.std.specs.Prelude.{◌≡◌, refl, List, [], ◌≢◌, ℕ, ◌≤◌, Float, replicate}
use Rattle.std.proofs.Common.{sym, ◌∙◌, arith, ne_eqb}
use Rattle.std.proofs.Math.Path.{ap}
use Rattle.std.proofs.Math.Nat.{sub-zero}
use Rattle.std.proofs.Math.ListN.{length}
use Rattle.base.specs.common.Refusals.{Rule, Finds}
use Rattle.base.specs.common.Binary64.{zero}
use Rattle.base.specs.numbers.Numbers.{EMPTY, refused_triangle}
use Rattle.mesh.specs.Accepted.{Mesh, table_of, Accepted}
use Rattle.mesh.specs.laws.Facts.{topology, tab_length}
use Rattle.mesh_check.specs.whole.AtExit.{at_exit}
use Rattle.mesh_check.specs.whole.laws.AtExit.{exit_blank}
use Rattle.admission.specs.Slices.{Slices, slices}
use Rattle.admission.specs.Admission.{OutlineAdmission, BuildAdmission}
use Rattle.arguments.specs.asking.laws.Asks.{NoneZero}
use Rattle.admission.specs.laws.Admits.{asked_answers, admitted, admits_own}
use Rattle.admission.specs.laws.Outlined.{build_outlined, same_vertices, same_indexes, same_offsets, same_counts, table_of_lem, long_of}
use Rattle.definition.specs.declared.Fault.{Fault}
use Rattle.definition.specs.Fault.{Outcome, ok, refused}
use Rattle.definition.specs.Build.{Built}
use Rattle.cell_memory.specs.layout.Cleared.{padded}
use Rattle.cell_memory.specs.outputs.Outputs.{of_built, fault_of, BuiltInto, counts_made}
use Rattle.building.specs.counts.Counts.{EndedBuild}
use Rattle.building.specs.answers.Promise.{BuildAnswers}
use Rattle.build_laws.specs.Late.{Refuses, Numbered}
use Rattle.building.specs.answers.laws.Promise.{early, built}

-- a slice cleared by a late refusal
blanked : {A : Type 0} (blank : A) (made m l : List A) (n : ℕ) → refused_triangle ≤ n → length m ≡ length l → replicate (length m) blank ≡ at_exit blank made l n
blanked blank made m l n h e = ap (λ k. replicate k blank) e ∙ sym (exit_blank blank made l n h)

module _ {m : Mesh} {asked : ℕ} {old new : Slices} {r : ℕ} (a : BuildAdmission m asked old new r) where
  pub answers_early : (own : List (Rule ℕ)) → NoneZero own → Finds own 0 asked → (o : Outcome Fault Built) → r ≢ 0 → BuildAnswers m own o old new r
  unfolding at_exit
  answers_early own t f o n = record {
    number = early (admits_own own t f a.number) n;
    work = a.work ∙ rw (ne_eqb r 0 n);
    vertices = a.vertices ∙ rw (ne_eqb r 0 n);
    indexes = a.indexes ∙ rw (ne_eqb r 0 n);
    offsets = a.offsets ∙ rw (ne_eqb r 0 n);
    counts = a.counts ∙ rw (ne_eqb r 0 n);
  }

  module _ (z : r ≡ 0) where
    pub mesh_of_lem : Accepted m
    mesh_of_lem = (admitted (asked_answers asked) a.number z).accepted

    pub fit_of : asked ≡ 0
    fit_of = (admitted (asked_answers asked) a.number z).fit.0

    outline_of_lem : OutlineAdmission m asked old new r
    outline_of_lem = build_outlined a z

    module _ (own : List (Rule ℕ)) (t : NoneZero own) (found : Finds own 0 asked) {v : List Float} {ix off w c made : List ℕ} where
      go : (o : Outcome Fault Built) → Refuses Numbered o → BuiltInto o new.vertices new.indexes new.offsets v ix off
          → EndedBuild (fault_of o).number made new.work new.counts w c → ((fault_of o).number ≡ 0 → made ≡ of_built counts_made o)
          → BuildAnswers m own o old (slices w v ix off c) (fault_of o).number
      unfolding at_exit of_built
      go (ok b) late l f q = record {
        number = built t (admits_own own t found (rw z at a.number));
        work = f.work ∙ table_of_lem outline_of_lem z ∙ rw (tab_length (topology mesh_of_lem));
        vertices = l.vertices ∙ rw (same_vertices outline_of_lem z);
        indexes = l.indexes ∙ rw (same_indexes outline_of_lem z);
        offsets = l.offsets ∙ rw (same_offsets outline_of_lem z);
        counts = f.counts ∙ rw (same_counts outline_of_lem z, q refl);
      }
      go (refused e) late l f q =
          let n : e.number ≢ 0 = λ x. omega (arith, late.least) in
          let big : refused_triangle ≤ e.number = omega (arith, late.least) in
          let long = ap length (same_counts outline_of_lem z) in
          record {
            number = built t (admits_own own t found (rw z at a.number));
            work = (rw (ne_eqb e.number 0 n) at f.work) ∙ blanked EMPTY (padded (length old.work) EMPTY (table_of m)) new.work old.work e.number big (long_of outline_of_lem z);
            vertices = (rw sub-zero at l.vertices) ∙ blanked zero (padded (length old.vertices) zero []) new.vertices old.vertices e.number big (ap length (same_vertices outline_of_lem z));
            indexes = (rw sub-zero at l.indexes) ∙ blanked EMPTY (padded (length old.indexes) EMPTY []) new.indexes old.indexes e.number big (ap length (same_indexes outline_of_lem z));
            offsets = (rw sub-zero at l.offsets) ∙ blanked EMPTY (padded (length old.offsets) EMPTY []) new.offsets old.offsets e.number big (ap length (same_offsets outline_of_lem z));
            counts = (rw (ne_eqb e.number 0 n) at f.counts) ∙ blanked EMPTY (padded (length old.counts) EMPTY []) new.counts old.counts e.number big long;
          }

      pub answers_built : (o : Outcome Fault Built) → Refuses Numbered o → (f : Fault) → f ≡ fault_of o
          → BuiltInto o new.vertices new.indexes new.offsets v ix off → EndedBuild f.number made new.work new.counts w c
          → ((fault_of o).number ≡ 0 → made ≡ of_built counts_made o) → BuildAnswers m own o old (slices w v ix off c) f.number
      answers_built o late f e l d q = rw e (go o late l (rw e at d) q)
