-- Rules that hold, read by g and put together; and the place that the check of a mesh names fits 32 bits: rule 1 holds then.
use Rattle.std.specs.Prelude.{List, [], ◌∷◌, ◌++◌, ℕ, ◌≤◌, ◌<◌, length, ⊤, Result, Ok}
use Rattle.std.proofs.Common.{inl, inr, arith}
use Rattle.base.specs.common.Refusals.{Rule, once, each, Keep, Judged, reads}
use Rattle.mesh.specs.declared.MeshFault.{MeshFault}
use Rattle.mesh.specs.Accepted.{Mesh, Counted, site_count}
use Rattle.mesh.specs.Faults.{coordinate_rules, topology_rules, mesh_rules}
use Rattle.mesh_check.specs.whole.Answers.{Finding, MeshAnswer}
use Rattle.reasons.specs.Reason.{fault_place}

pub keep_reads : {A B : Type 0} (g : A → B) (rs : List (Rule A)) → Keep rs → Keep (reads g rs)
keep_reads g [] k = tt
keep_reads g (once a P ∷ rs) k = (k.0, keep_reads g rs k.1)
keep_reads g (each f n P ∷ rs) k = (k.0, keep_reads g rs k.1)

pub keep_join : {A : Type 0} (rs qs : List (Rule A)) → Keep rs → Keep qs → Keep (rs ++ qs)
keep_join [] qs k l = l
keep_join (r ∷ rs) qs k l = (k.0, keep_join rs qs k.1 l)

-- P holds of each answer of a rule whose place is below its bound
abbrev pub EachPlaced : {A : Type 0} → (A → Type 0) → List (Rule A) → Type 0
EachPlaced P [] = Unit {0}
EachPlaced P (once a Q ∷ rs) = P a × EachPlaced P rs
EachPlaced P (each f n Q ∷ rs) = ((k : ℕ) → k < n → P (f k)) × EachPlaced P rs

judged_placed : {A : Type 0} (P : A → Type 0) (rs : List (Rule A)) {none a : A} → P none → EachPlaced P rs → Judged rs none a → P a
judged_placed P [] p t x = rw x p
judged_placed P (once c Q ∷ rs) p t (inl x) = rw x.1 t.0
judged_placed P (once c Q ∷ rs) p t (inr x) = judged_placed P rs p t.1 x.1
judged_placed P (each f n Q ∷ rs) p t (inl x) = rw x.3 (t.0 x.0 x.2)
judged_placed P (each f n Q ∷ rs) p t (inr x) = judged_placed P rs p t.1 x.1

module _ (m : Mesh) (w : ℕ) where
  abbrev Fits : Result ⊤ MeshFault → Type 0
  Fits f = fault_place f < 4294967296

  place_fits : (f : Result ⊤ MeshFault) → Finding m w f → Fits f
  place_fits f x = go x.judged
    where
      late : Counted (length m.sites) (length m.triangles) (length m.halfedges) (length m.hull)
          → Judged (coordinate_rules m.sites ++ topology_rules m.triangles m.halfedges m.hull (site_count m.sites)) (Ok tt) f → Fits f
      late c y =
          judged_placed Fits (coordinate_rules m.sites ++ topology_rules m.triangles m.halfedges m.hull (site_count m.sites)) (omega arith) (
            λ k l. omega (arith, c.few_sites),
            (
              λ k l. omega (arith, c.few_triangles),
              (
                λ k l. omega (arith, c.few_triangles, c.threes),
                (λ k l. omega (arith, c.hull_of_sites, c.few_sites), (λ k l. omega (arith, c.few_triangles, c.threes, c.same), (λ k l. omega (arith, c.few_sites), tt))),
              ),
            ),
          ) y

      go : Judged (mesh_rules m (site_count m.sites ≤ w)) (Ok tt) f → Fits f
      go (inl y) = rw y.1 (omega arith)
      go (inr (c, inl y)) = rw y.1 (omega arith)
      go (inr (c, inr (r, y))) = late c y

pub answer_fits : {m : Mesh} {old new : List ℕ} {f : Result ⊤ MeshFault} → MeshAnswer m old new f → fault_place f < 4294967296
answer_fits {m} {old} {f = f} a = place_fits m (length old) f a.finding
