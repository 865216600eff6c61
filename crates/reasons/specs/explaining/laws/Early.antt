-- A refusal by the rules up to 10 with its place is the reason that the rules give, and the slices are as a build leaves them.
use Rattle.std.specs.Prelude.{◌≡◌, refl, List, ◌++◌, ◌≢◌, ℕ, ◌≤◌, ◌<◌, length, replicate, ⊤, Result, Ok, Err}
use Rattle.std.proofs.Common.{sym, ap, ◌∙◌, inl, inr, ⊎_elim, arith}
use Rattle.std.proofs.lemmas.List.{length-replicate}
use Rattle.base.specs.common.Refusals.{Rule, Keep, Judged, Finds, reads}
use Rattle.base.specs.common.laws.Decide.{lt_or_ge}
use Rattle.base.specs.common.laws.Refusals.{breaks, keeps, finds_one, finds_answers, finds_first, finds_after, finds_split, finds_reads}
use Rattle.base.specs.numbers.Numbers.{EMPTY, refused_coordinate, refused_triangle}
use Rattle.mesh.specs.declared.MeshFault.{MeshFault}
use Rattle.mesh.specs.declared.MeshFault.TheVariants.{Counts, Room, Coordinate, Triangle, Pairing, HullPlace, HullEdge, BrokenFan}
use Rattle.mesh.specs.Mesh.{leftmost_in}
use Rattle.mesh.specs.Accepted.{Mesh, table_of, site_count}
use Rattle.mesh.specs.Faults.{number_of, start_rules, coordinate_rules, topology_rules, mesh_rules}
use Rattle.mesh.specs.Rules.{call_rules}
use Rattle.mesh_check.specs.whole.laws.AtExit.{exit_held, exit_blank}
use Rattle.definition.specs.declared.Fault.{Fault}
use Rattle.definition.specs.Fault.{Outcome}
use Rattle.definition.specs.Build.{Built}
use Rattle.admission.specs.Admits.{asked_rules}
use Rattle.admission.specs.laws.Admits.{asked_answers, finds_asked}
use Rattle.admission.specs.Slices.{Slices, slices}
use Rattle.admission.specs.Admission.{BuildAdmission}
use Rattle.building.specs.answers.Promise.{BuildAnswer}
use Rattle.building.specs.answers.laws.BuildAnswer.{answers_early}
use Rattle.reasons.specs.declared.Reason.{Reason}
use Rattle.reasons.specs.declared.Reason.TheVariants.{NoFault, Number}
use Rattle.reasons.specs.Reason.{of_mesh, told_by}
use Rattle.reasons.specs.Rules.{reason_rules}
use Rattle.reasons.specs.explaining.Steps.{Located, alone, placed}
use Rattle.reasons.specs.explaining.laws.Asked.{OwnRules}
use Rattle.reasons.specs.explaining.laws.Placed.{keep_reads}

-- the number of a fault of the mesh
pub mesh_number : (f : Result ⊤ MeshFault) → (told_by (of_mesh f)).number ≡ number_of f
mesh_number (Ok _) = refl
mesh_number (Err Counts) = refl
mesh_number (Err Room) = refl
mesh_number (Err (Coordinate s)) = refl
mesh_number (Err (Triangle t)) = refl
mesh_number (Err (Pairing e)) = refl
mesh_number (Err (HullPlace i)) = refl
mesh_number (Err (HullEdge e)) = refl
mesh_number (Err (BrokenFan s)) = refl

pub record Reasoned (m : Mesh) (room : Type 0) (own : List (Rule ℕ)) (n : ℕ) (r : Reason) : Type 0 where
  pub found : Finds (reason_rules m room own) NoFault r
  pub number : (told_by r).number ≡ n

module _ (m : Mesh) (room : Type 0) (own : List (Rule ℕ)) (o : OwnRules own) where
  abbrev start : List (Rule (Result ⊤ MeshFault))
  start = start_rules (length m.sites) (length m.triangles) (length m.halfedges) (length m.hull) room

  abbrev late : List (Rule (Result ⊤ MeshFault))
  late = coordinate_rules m.sites ++ topology_rules m.triangles m.halfedges m.hull (site_count m.sites)

  -- from 6 on
  late_number : {n : ℕ} → Finds (reads number_of late) 0 n → n ≢ 0 → refused_coordinate ≤ n
  late_number =
      finds_answers (λ r. r ≢ 0 → refused_coordinate ≤ r) (λ z. absurd (z refl))
      (λ k z. omega arith, (λ k z. omega arith, (λ k z. omega arith, (λ k z. omega arith, (λ k z. omega arith, (λ k z. omega arith, tt))))))

  own_number : {n : ℕ} → Finds own 0 n → n < refused_coordinate
  own_number = finds_answers (λ r. r < refused_coordinate) (omega arith) o.small

  module _ {n : ℕ} {w v : List ℕ} (z : n ≢ 0) (fits : room → site_count m.sites ≤ length w) where
    reasoned : (r : Reason) → Located m n w v r → Finds (call_rules m room own) 0 n → Reasoned m room own n r
    reasoned r l x =
        ⊎_elim (λ y. at_start r l y.0) (λ y. ⊎_elim (λ u. at_own r l y.0 u.0) (λ u. at_late r l y.0 u.0 u.1) (finds_split own (reads number_of late) o.some y.1))
        (finds_split (reads number_of start) (own ++ reads number_of late) (λ k e. omega arith, (λ k e. omega arith, tt)) x)
      where
        at_start : (r : Reason) → Located m n w v r → Finds (reads number_of start) 0 n → Reasoned m room own n r
        at_start r (placed f h a) y = absurd (omega (arith, h, finds_answers (λ j. j < refused_coordinate) (omega arith) (λ k. omega arith, (λ k. omega arith, tt)) y))
        at_start r (alone h a) y = go y.judged
          where
            go : Judged (reads number_of start) 0 n → Reasoned m room own n (Number n)
            go (inl u) = record { found = rw u.1 (breaks u.0); number = refl }
            go (inr (c, inl u)) = record { found = rw u.1 (keeps c (breaks u.0)); number = refl }
            go (inr (c, inr (k, u))) = absurd (z u)

        at_own : (r : Reason) → Located m n w v r → Keep start → Finds own 0 n → Reasoned m room own n r
        at_own r (placed f h a) k y = absurd (omega (arith, h, own_number y))
        at_own r (alone h a) k y = record {
          found = finds_after (reads of_mesh start) (keep_reads of_mesh start k) (finds_first (reads of_mesh late) (λ e. z (same e)) (finds_reads Number y));
          number = refl;
        }
          where
            same : Number n ≡ Number 0 → n ≡ 0
            same e = cc

        at_late : (r : Reason) → Located m n w v r → Keep start → Keep own → Finds (reads number_of late) 0 n → Reasoned m room own n r
        at_late r (alone h a) k fit y = absurd (omega (arith, h, late_number y z))
        at_late r (placed f h a) k fit y = record {
          found = finds_after (reads of_mesh start) (keep_reads of_mesh start k) (finds_after (reads Number own) (keep_reads Number own fit) (finds_reads of_mesh there));
          number = mesh_number f ∙ finds_one (finds_reads number_of there) y;
        }
          where
            there : Finds late (Ok tt) f
            there = go a.finding.judged
              where
                go : Judged (mesh_rules m (site_count m.sites ≤ length w)) (Ok tt) f → Finds late (Ok tt) f
                go (inl u) = absurd (u.0 k.0)
                go (inr (c, inl u)) = absurd (u.0 (fits k.1.0))
                go (inr (c, inr (q, u))) = record { judged = u }

  -- so is a refusal in its place, whatever comes after
  pub early_reason : {n : ℕ} {w v : List ℕ} {r : Reason} → n ≢ 0 → (room → site_count m.sites ≤ length w) → Located m n w v r
      → Finds (call_rules m room own) 0 n → Reasoned m room own n r
  early_reason {r = r} z fits l x = reasoned z fits r l x

-- ---- the work slice is left as it was
module _ (m : Mesh) (asked : ℕ) (old mid : Slices) {n : ℕ} (a : BuildAdmission m asked old mid n) (z : n ≢ 0) where
  abbrev table : ℕ → List ℕ
  table w = leftmost_in m.triangles m.halfedges (site_count m.sites) w

  blank : refused_triangle ≤ n → mid.work ≡ replicate (length old.work) EMPTY
  blank l = a.work ∙ exit_blank EMPTY (table (length old.work)) old.work n l

  work_same : {v : List ℕ} {r : Reason} → (told_by r).number ≡ n → Located m n mid.work v r → v ≡ mid.work
  work_same q (alone h e) = e
  work_same q (placed f h x) =
      let e : number_of f ≡ n = sym (mesh_number f) ∙ q in
      x.work ∙ rw e (⊎_elim
      (λ l. exit_held EMPTY (table (length mid.work)) mid.work n z l)
      (λ l. exit_blank EMPTY (table (length mid.work)) mid.work n l
      ∙ ap (λ k. replicate k EMPTY) (ap length (blank l) ∙ length-replicate (length old.work) EMPTY) ∙ sym (blank l))
      (lt_or_ge n refused_triangle))

  pub early_slices : (o : Outcome Fault Built) (new : Slices) {r : Reason} → (told_by r).number ≡ n → Located m n mid.work new.work r
      → new ≡ slices new.work mid.vertices mid.indexes mid.offsets mid.counts
      → BuildAnswer (λ j. j ≡ (told_by r).number) (table_of m) o old new (told_by r).number
  early_slices o new q l e =
      let b = answers_early a (asked_rules asked) (asked_answers asked) (finds_asked asked) o z in
      rw q (record {
        number = refl;
        work = work_same q l ∙ b.work;
        vertices = ap (λ (s : Slices). s.vertices) e ∙ b.vertices;
        indexes = ap (λ (s : Slices). s.indexes) e ∙ b.indexes;
        offsets = ap (λ (s : Slices). s.offsets) e ∙ b.offsets;
        counts = ap (λ (s : Slices). s.counts) e ∙ b.counts;
      })
