-- The build's outcome as a reason: the builder met something, or what was asked is answered.
use Rattle.std.specs.Prelude.{◌≡◌, refl, Bool, true, false, List, [], ◌++◌, ℕ, eqb, length}
use Rattle.std.proofs.Common.{sym, eqb-true}
use Rattle.base.specs.common.Pick.{pick}
use Rattle.base.specs.common.Refusals.{Rule, Keep, reads}
use Rattle.base.specs.common.laws.Refusals.{breaks, finds_none, finds_after}
use Rattle.base.specs.numbers.Numbers.{refused_circumcenter, refused_extension}
use Rattle.mesh.specs.Accepted.{Mesh, Accepted, site_count}
use Rattle.mesh.specs.Faults.{start_rules, coordinate_rules, topology_rules}
use Rattle.mesh.specs.laws.Verdicts.{accepted_keep}
use Rattle.definition.specs.declared.Fault.{Fault}
use Rattle.definition.specs.Fault.{Outcome, ok, refused}
use Rattle.definition.specs.Build.{Built}
use Rattle.reasons.specs.declared.Question.{Question}
use Rattle.reasons.specs.declared.Question.TheVariants.{Nothing, About, Between}
use Rattle.reasons.specs.declared.Reason.{Reason}
use Rattle.reasons.specs.declared.Reason.TheVariants.{NoFault, Number, AtTriangle, AtHullPlace, AtEdge, Unused, TriesEmpty, Dropped}
use Rattle.reasons.specs.Reason.{of_mesh, of_fault, told_by}
use Rattle.walks.specs.shared.Cells.{holds_of, shared_of}
use Rattle.walks.specs.neighbours.Neighbours.{neighbours_of}
use Rattle.reasons.specs.Answer.{is_none, empty_answer, dropped_answer, staying, answer_to}
use Rattle.reasons.specs.Rules.{reason_rules, answered, ReasonFor}
use Rattle.reasons.specs.explaining.laws.Placed.{keep_reads, keep_join}

-- the number of what the builder met
pub fault_number : (f : Fault) → (told_by (of_fault f)).number ≡ f.number
unfolding of_fault
fault_number f = go (eqb f.number 0) refl (eqb f.number refused_circumcenter) (eqb f.number refused_extension)
  where
    go : (a : Bool) → eqb f.number 0 ≡ a → (b c : Bool) → (told_by (pick {A = Reason} a (λ _. NoFault) (λ _. pick b (λ _. AtTriangle f.number f.place) (λ _.
        pick c (λ _. AtHullPlace f.number f.place) (λ _. AtEdge f.number f.place f.from f.to))))).number ≡ f.number
    go true e b c = sym (eqb-true f.number 0 e)
    go false e true c = refl
    go false e false true = refl
    go false e false false = refl

-- an answer to what was asked refuses nothing
pub answer_number : (tri he table : List ℕ) (cell : ℕ → List ℕ) (q : Question) → (told_by (answer_to tri he table cell q)).number ≡ 0
unfolding empty_answer dropped_answer
answer_number tri he table cell Nothing = refl
answer_number tri he table cell (About s) = go (is_none (cell s)) (holds_of tri s)
  where
    go : (a b : Bool) → (told_by (pick {A = Reason} a (λ _. pick b (λ _. TriesEmpty s) (λ _. Unused s)) (λ _. NoFault))).number ≡ 0
    go true true = refl
    go true false = refl
    go false b = refl
answer_number tri he table cell (Between s t) =
    go (shared_of (cell s) (cell t)) (holds_of (neighbours_of tri he table s) t) (holds_of (staying tri he table cell s) t)
  where
    go : (k : ℕ) (a b : Bool) → (told_by (pick {A = Reason} a (λ _. pick b (λ _. NoFault) (λ _. Dropped s t k)) (λ _. NoFault))).number ≡ 0
    go k true true = refl
    go k true false = refl
    go k false b = refl

module _ (m : Mesh) (room : Type 0) (own : List (Rule ℕ)) (a : Accepted m) (k : room) (fit : Keep own) where
  pub rules_keep : Keep (reason_rules m room own)
  rules_keep =
      let l = accepted_keep m room a k in
      let late = coordinate_rules m.sites ++ topology_rules m.triangles m.halfedges m.hull (site_count m.sites) in
      let start = start_rules (length m.sites) (length m.triangles) (length m.halfedges) (length m.hull) room in
      keep_join (reads of_mesh start) (reads Number own ++ reads of_mesh late) (l.0, (l.1.0, tt))
      (keep_join (reads Number own) (reads of_mesh late) (keep_reads Number own fit) (keep_reads of_mesh late l.1.1))

  pub met_reason : (q : Question) (o : Outcome Fault Built) (f : Fault) → o ≡ refused f → ReasonFor m room own q o (of_fault f)
  met_reason q o f e = rw e (finds_after (reason_rules m room own) rules_keep (breaks (λ x. x)))

  pub asked_reason : (q : Question) (o : Outcome Fault Built) (b : Built) → o ≡ ok b → {r : Reason} → r ≡ answered m q o → ReasonFor m room own q o r
  asked_reason q o b e {r} p = rw p (go o b e)
    where
      go : (o : Outcome Fault Built) (b : Built) → o ≡ ok b → ReasonFor m room own q o (answered m q o)
      go o b e = rw e (finds_none (keep_join (reason_rules m room own) [] rules_keep tt))
