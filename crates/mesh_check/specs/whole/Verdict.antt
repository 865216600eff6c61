-- Theorem: the checker's answer is one, and it finds nothing exactly where the mesh is accepted.
use Rattle.std.specs.Prelude.{◌≡◌, List, ℕ, ◌≤◌, ⊤, Result, Ok}
use Rattle.std.proofs.Common.{sym, ap, ◌∙◌, rules}
use Rattle.base.specs.common.laws.Refusals.{finds_one, finds_keep, finds_none}
use Rattle.mesh.specs.declared.MeshFault.{MeshFault}
use Rattle.mesh.specs.Faults.{number_of}
use Rattle.mesh.specs.Accepted.{Mesh, Accepted, site_count}
use Rattle.mesh.specs.laws.Verdicts.{accepted_keep, keep_accepted}
use Rattle.mesh_check.specs.whole.Answers.{Finding, MeshAnswer, work_after}

module _ (m : Mesh) (w : ℕ) where
  -- no fault: the mesh is accepted
  pub found_none : {f : Result ⊤ MeshFault} → Finding m w f → number_of f ≡ 0 → Accepted m
  found_none x z = keep_accepted m (site_count m.sites ≤ w) (finds_keep (λ f. number_of f ≡ 0) (search rules) z x)

  pub none_found : Accepted m → site_count m.sites ≤ w → Finding m w (Ok tt)
  none_found a l = finds_none (accepted_keep m (site_count m.sites ≤ w) a l)

pub answer_one : (m : Mesh) (old new other : List ℕ) (f g : Result ⊤ MeshFault) → MeshAnswer m old new f
    → MeshAnswer m old other g → (f ≡ g) × (new ≡ other)
answer_one m old new other f g a b =
    let q = finds_one a.finding b.finding in
    (q, a.work ∙ ap (λ k. work_after m old (number_of k)) q ∙ sym b.work)
