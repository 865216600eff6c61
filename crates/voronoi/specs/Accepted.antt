-- Theorem: the check answers 0 exactly where the mesh is accepted; and a call that asks nothing of its own refuses with the number of what the check finds.
use Rattle.std.specs.Prelude.{◌≡◌, refl, List, [], ℕ, ◌≤◌, length, ⊤, Result}
use Rattle.std.proofs.Common.{◌∙◌}
use Rattle.base.specs.common.laws.Refusals.{finds_reads}
use Rattle.base.specs.numbers.Numbers.{EMPTY}
use Rattle.mesh.specs.declared.MeshFault.{MeshFault}
use Rattle.mesh.specs.Mesh.{leftmost_in}
use Rattle.mesh.specs.Faults.{number_of}
use Rattle.mesh.specs.Accepted.{Mesh, Accepted, site_count}
use Rattle.mesh_check.specs.whole.Answers.{Finding}
use Rattle.mesh_check.specs.whole.laws.AtExit.{exit_made}
use Rattle.queries.specs.Answers.{Number}
use Rattle.voronoi.specs.Meshes.{Check}
use Rattle.voronoi.specs.laws.Answering.{edge_answers}

module _ (m : Mesh) (old : List ℕ) where
  -- 0: the mesh is accepted, and the slice holds its leftmost table, then EMPTY
  pub checked_accepted : (new : List ℕ) → Check m old new 0 → Accepted m × (new ≡ leftmost_in m.triangles m.halfedges (site_count m.sites) (length old))
  checked_accepted new c =
      (((edge_answers m old c.number).0 refl).mesh, c.work ∙ exit_made EMPTY (leftmost_in m.triangles m.halfedges (site_count m.sites) (length old)) old 0 refl)

  pub accepted_checked : (new : List ℕ) (r : ℕ) → Accepted m → site_count m.sites ≤ length old → Check m old new r → r ≡ 0
  accepted_checked new r a l c = (edge_answers m old c.number).1 (record { mesh = a; room = l; arguments = tt })

-- a call that asks nothing of its own refuses with the number of what the check finds
pub check_number : (m : Mesh) (w : List ℕ) {f : Result ⊤ MeshFault} → Finding m (length w) f → Number m w [] [] (number_of f)
check_number m w x = finds_reads number_of x
