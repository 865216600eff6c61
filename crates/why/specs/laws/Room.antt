-- The slices of the program have room for every form, so its reason is by the other rules alone.
use Rattle.std.specs.Prelude.{◌≡◌, true, List, ◌∷◌, ◌++◌, ℕ, length, Err}
use Rattle.std.proofs.Common.{inl, inr}
use Rattle.base.specs.common.Refusals.{Rule, once, reads, Judged}
use Rattle.plane.specs.declared.given.Given.{Given}
use Rattle.mesh.specs.Accepted.{Mesh, site_count, Counted}
use Rattle.mesh.specs.declared.MeshFault.TheVariants.{Counts, Room}
use Rattle.mesh.specs.Faults.{coordinate_rules, topology_rules}
use Rattle.definition.specs.declared.Fault.{Fault}
use Rattle.definition.specs.Fault.{Outcome}
use Rattle.definition.specs.Build.{Built}
use Rattle.admission.specs.Slices.{Slices, room_of}
use Rattle.reasons.specs.declared.Question.{Question}
use Rattle.reasons.specs.declared.Reason.{Reason}
use Rattle.reasons.specs.declared.Reason.TheVariants.{Number}
use Rattle.reasons.specs.Reason.{of_mesh}
use Rattle.reasons.specs.Rules.{build_rules, answered, ReasonFor}
use Rattle.reasons.specs.explaining.Promise.{WhyAnswer, Explained}
use Rattle.form.specs.mesh.Read.{MeshSized}
use Rattle.printing.specs.laws.BuildText.{ProgramSlices, roomy}
use Rattle.why.specs.Printed.{WhyOfMesh}

-- the second rule of a list is kept, in one wording and in another
judged_kept : (rest : List (Rule Reason)) (none r a c : Reason) (P Q S : Type 0) → Q → S → Judged (once a P ∷ once c Q ∷ rest) none r → Judged (once a P ∷ once c S ∷ rest) none r
judged_kept rest none r a c P Q S q s (inl x) = inl x
judged_kept rest none r a c P Q S q s (inr (p, inl x)) = absurd (x.0 q)
judged_kept rest none r a c P Q S q s (inr (p, inr (k, j))) = inr (p, inr (s, j))

module _ (m : Mesh) (old : Slices) (long : ProgramSlices old) (sized : MeshSized (length m.sites) (length m.triangles) (length m.hull)) where
  module _ {own : List (Rule ℕ)} {q : Question} {o : Outcome Fault Built} {new : Slices} {r : Reason} where
    with_room : WhyAnswer m own q o old new r → ReasonFor m (Unit {0}) own q o r
    with_room a =
        let rest = reads Number own ++ reads of_mesh (coordinate_rules m.sites ++ topology_rules m.triangles m.halfedges m.hull (site_count m.sites)) ++ build_rules o in
        let counted = Counted (length m.sites) (length m.triangles) (length m.halfedges) (length m.hull) in
        record { judged = judged_kept rest (answered m q o) r (of_mesh (Err Counts)) (of_mesh (Err Room)) counted (room_of m old ≡ true) (Unit {0}) (roomy m sized old long) tt a.reason.judged }

  pub of_mesh_lem : (g : Given) (q : Question) {new : Slices} {r : Reason} → Explained m g q old new r → WhyOfMesh q m g r
  of_mesh_lem g q a = with_room a
