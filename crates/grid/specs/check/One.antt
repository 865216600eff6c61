-- Theorem: a call has one outcome: any two that its promise allows are equal.
use Rattle.std.specs.Prelude.{◌≡◌, List, ℕ}
use Rattle.std.proofs.Common.{sym, ap, ◌∙◌}
use Rattle.base.specs.common.laws.Refusals.{finds_one}
use Rattle.grid.specs.scan.Judged.{grid_number, grid_kind, grid_place}
use Rattle.grid.specs.check.Promise.{GridMesh, grid_work, GridChecks}

pub grid_checks_one : (m : GridMesh) (old new new' : List ℕ) (r k p r' k' p' : ℕ) → GridChecks m old new r k p → GridChecks m old new' r' k' p'
    → (r ≡ r') × (k ≡ k') × (p ≡ p') × (new ≡ new')
grid_checks_one m old new new' r k p r' k' p' a b =
    let e = finds_one a.found b.found in
    let n : r ≡ r' = a.number ∙ ap grid_number e ∙ sym b.number in (
      n,
      a.kind_is ∙ ap grid_kind e ∙ sym b.kind_is,
      a.at_place ∙ ap grid_place e ∙ sym b.at_place,
      a.work ∙ ap (grid_work m old) n ∙ sym b.work,
    )
