-- From the answer of mesh_check::whole to the promise of the check.
use Rattle.std.specs.Prelude.{◌≡◌, List, ℕ, ⊤, Result}
use Rattle.std.proofs.Common.{sym, ap, ◌∙◌}
use Rattle.mesh.specs.declared.MeshFault.{MeshFault}
use Rattle.mesh.specs.Faults.{number_of}
use Rattle.mesh.specs.Accepted.{Mesh}
use Rattle.mesh_check.specs.whole.Answers.{MeshAnswer, work_after}
use Rattle.voronoi.specs.Meshes.{Check}
use Rattle.voronoi.specs.Accepted.{check_number}

module _ (m : Mesh) (old : List ℕ) where
  pub numbered : (new : List ℕ) (f : Result ⊤ MeshFault) (r : ℕ) → MeshAnswer m old new f → r ≡ number_of f → Check m old new r
  numbered new f r a q = record { number = rw q (check_number m old a.finding); work = a.work ∙ ap (work_after m old) (sym q) }
