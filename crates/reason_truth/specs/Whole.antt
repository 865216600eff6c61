-- Theorem: the reason that the rules give is true: what it names breaks the rule that it names, and everything that stands earlier holds.
use Rattle.std.specs.Prelude.{◌≡◌, refl, List, [], ◌∷◌, ◌++◌, ◌⊎◌, ℕ, length, get_or, ⊤, Result}
use Rattle.std.proofs.Common.{append_assoc, inl, inr, ⊎_elim}
use Rattle.base.specs.common.Refusals.{Rule, once, each, Keeps, Breaks, Keep, Judged, reads}
use Rattle.base.specs.numbers.Numbers.{refused_count, refused_room}
use Rattle.mesh.specs.declared.MeshFault.{MeshFault}
use Rattle.mesh.specs.Accepted.{Mesh, table_of, Counted, Accepted, site_count}
use Rattle.mesh.specs.Faults.{coordinate_rules, topology_rules}
use Rattle.mesh.specs.laws.Verdicts.{keep_accepted}
use Rattle.definition.specs.declared.Fault.{Fault}
use Rattle.definition.specs.Fault.{Outcome, ok, refused}
use Rattle.definition.specs.Cell.{unmarked}
use Rattle.definition.specs.Build.{Built}
use Rattle.reasons.specs.declared.Question.{Question}
use Rattle.reasons.specs.declared.Reason.{Reason}
use Rattle.reasons.specs.declared.Reason.TheVariants.{Number}
use Rattle.reasons.specs.Reason.{of_mesh, of_fault}
use Rattle.reasons.specs.Rules.{reason_rules, build_rules, answered, ReasonFor}
use Rattle.reason_truth.specs.Answers.{AnswerTrue, answer_true}
use Rattle.reason_truth.specs.laws.Unread.{keep_unread}

-- one of the rules is broken, those before it hold, and a is what the first thing that breaks it answers
abbrev pub Broken : {A : Type 0} → List (Rule A) → A → Type 0
Broken [] a = ⊥
Broken (r ∷ rs) a = Breaks r a ⊎ (Keeps r × Broken rs a)

split : {A : Type 0} (none a : A) (rs qs : List (Rule A)) → Judged (rs ++ qs) none a → Broken rs a ⊎ (Keep rs × Judged qs none a)
split none a [] qs x = inr (tt, x)
split none a (r ∷ rs) qs (inl x) = inl (inl x)
split none a (r ∷ rs) qs (inr (k, x)) = ⊎_elim (λ y. inl (inr (k, y))) (λ y. inr ((k, y.0), y.1)) (split none a rs qs x)

-- answers read by g are of answers
unread : {A B : Type 0} (g : A → B) (rs : List (Rule A)) {b : B} → Broken (reads g rs) b → (a : A) × Broken rs a × (b ≡ g a)
unread {A = A} {B = B} g [] {b = b} x = elim x [ ]
unread g (once a P ∷ rs) (inl x) = (a, inl (x.0, refl), x.1)
unread g (once a P ∷ rs) (inr (k, x)) = let (a, y, e) = unread g rs x in (a, inr (k, y), e)
unread g (each f n P ∷ rs) (inl (k, first, l, e)) = (f k, inl (k, first, l, refl), e)
unread g (each f n P ∷ rs) (inr (k, x)) = let (a, y, e) = unread g rs x in (a, inr (k, y), e)

module _ (m : Mesh) (room : Type 0) (own : List (Rule ℕ)) (q : Question) (o : Outcome Fault Built) where
  abbrev Counts : Type 0
  Counts = Counted (length m.sites) (length m.triangles) (length m.halfedges) (length m.hull)

  abbrev late : List (Rule (Result ⊤ MeshFault))
  late = coordinate_rules m.sites ++ topology_rules m.triangles m.halfedges m.hull (site_count m.sites)

  -- what each reason says
  pub data WhyTrue : Reason → Type 0 where
    bad_counts : (Counts → ⊥) → WhyTrue (Number refused_count)
    no_room : Counts → (room → ⊥) → WhyTrue (Number refused_room)
    bad_argument : Counts → room → {n : ℕ} → Broken own n → WhyTrue (Number n)
    bad_mesh : Counts → room → Keep own → {f : Result ⊤ MeshFault} → Broken late f → WhyTrue (of_mesh f)
    met : Accepted m → room → Keep own → {f : Fault} → o ≡ refused f → WhyTrue (of_fault f)
    sound : Accepted m → room → Keep own → {b : Built} {r : Reason} → o ≡ ok b
        → AnswerTrue m.triangles m.halfedges (table_of m) (λ s. unmarked (get_or b.cells s [])) q r → WhyTrue r

  module _ (c : Counts) (k : room) (fit : Keep own) (l : Keep late) where
    accepted : Accepted m
    accepted = keep_accepted m room (c, (k, l))

    built_true : {r : Reason} (p : Outcome Fault Built) → o ≡ p → Judged (build_rules p) (answered m q p) r → WhyTrue r
    built_true (ok b) e x = rw x (sound accepted k fit e (answer_true m.triangles m.halfedges _ _ q))
    built_true (refused f) e (inl x) = rw x.1 (met accepted k fit e)
    built_true (refused f) e (inr x) = absurd x.0

  late_true : Counts → room → Keep own → {r : Reason} → Judged (reads of_mesh late ++ build_rules o) (answered m q o) r → WhyTrue r
  late_true c k fit {r} x =
      ⊎_elim
      (λ y. let (f, z, e) = unread of_mesh late y in rw e (bad_mesh c k fit z))
      (λ y. built_true c k fit (keep_unread of_mesh late y.0) o refl y.1)
      (split (answered m q o) r (reads of_mesh late) (build_rules o) x)

  own_true : Counts → room → {r : Reason} → Judged (reads Number own ++ (reads of_mesh late ++ build_rules o)) (answered m q o) r → WhyTrue r
  own_true c k {r} x =
      ⊎_elim
      (λ y. let (n, z, e) = unread Number own y in rw e (bad_argument c k z))
      (λ y. late_true c k (keep_unread Number own y.0) y.1)
      (split (answered m q o) r (reads Number own) (reads of_mesh late ++ build_rules o) x)

  pub why_true : {r : Reason} → ReasonFor m room own q o r → WhyTrue r
  why_true {r} x = go x.judged
    where
      go : Judged (reason_rules m room own ++ build_rules o) (answered m q o) r → WhyTrue r
      go (inl y) = rw y.1 (bad_counts y.0)
      go (inr (c, inl y)) = rw y.1 (no_room c y.0)
      go (inr (c, inr (k, y))) = own_true c k (rw (append_assoc (reads Number own) (reads of_mesh late) (build_rules o)) at y)
