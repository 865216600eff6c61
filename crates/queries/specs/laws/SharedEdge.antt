-- The answer about the edge that two triangles share, from the admission of the mesh.
use Rattle.std.specs.Prelude.{◌≡◌, List, [], ◌≢◌, ℕ, ◌%◌, ◌≤◌, length}
use Rattle.std.proofs.Common.{ap, ◌∙◌, arith, ne_eqb, leb-true, le-leb}
use Rattle.base.specs.common.laws.Refusals.{nothing}
use Rattle.base.specs.numbers.Numbers.{EMPTY}
use Rattle.mesh.specs.Accepted.{Mesh, site_count}
use Rattle.mesh_check.specs.whole.Answers.{work_after}
use Rattle.walks.specs.shared.Edge.{shared_edge_of}
use Rattle.admission.specs.Admission.{Admission, roomy_of}
use Rattle.admission.specs.laws.Admits.{asked_answers, admitted, admits_rules}
use Rattle.queries.specs.Answers.{Number, EdgeTold, found_of, EdgeAnswer}

module _ {m : Mesh} {w w' : List ℕ} {r : ℕ} (a : Admission m (roomy_of m.sites w) 0 w w' r) where
  edge_number : Number m w [] [] r
  edge_number =
      admits_rules m (site_count m.sites ≤ length w) (λ _. (leb-true (site_count m.sites) (length w), le-leb (site_count m.sites) (length w))) a.number [] tt nothing

  pub edge_refused : (p q : ℕ) (x : EdgeTold) → r ≢ 0 → x ≡ found_of r EMPTY → EdgeAnswer m p q w w' x
  edge_refused p q x n e = rw e (record { number = edge_number; work = a.work; edge = rw (ne_eqb r 0 n) })

  pub edge_asks : r ≡ 0 → (length m.halfedges % 3 ≡ 0) × (length m.halfedges ≤ EMPTY)
  edge_asks z =
      let c = (admitted (asked_answers 0) a.number z).accepted.counts in
      omega (arith, c.threes, c.same, c.few_triangles)

  pub edge_found : (p q e : ℕ) → r ≡ 0 → e ≡ shared_edge_of m.halfedges p q → EdgeAnswer m p q w w' (found_of 0 e)
  edge_found p q e z f = record {
    number = rw z at edge_number;
    work = a.work ∙ ap (work_after m w) z;
    edge = f;
  }
