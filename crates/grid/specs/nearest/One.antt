-- Theorem: a call has one outcome: any two that its promise allows are equal.
use Rattle.std.specs.Prelude.{◌≡◌, List, ℕ}
use Rattle.std.proofs.Common.{sym, ap, ◌∙◌, ⊎_elim}
use Rattle.base.specs.common.laws.Decide.{eq_or_ne}
use Rattle.base.specs.common.laws.Refusals.{finds_one}
use Rattle.grid.specs.check.Promise.{GridMesh, grid_work}
use Rattle.grid.specs.nearest.Judged.{nearest_number, nearest_kind, nearest_place}
use Rattle.grid.specs.nearest.Promise.{NearestChecks}

pub nearest_checks_one : (m : GridMesh) (old new new' : List ℕ) (r k p u r' k' p' u' : ℕ) → NearestChecks m old new r k p u → NearestChecks m old new' r' k' p' u'
    → (r ≡ r') × (k ≡ k') × (p ≡ p') × (u ≡ u') × (new ≡ new')
nearest_checks_one m old new new' r k p u r' k' p' u' a b =
    let e = finds_one a.found b.found in
    let n : r ≡ r' = a.number ∙ ap nearest_number e ∙ sym b.number in (
      n,
      a.kind_is ∙ ap nearest_kind e ∙ sym b.kind_is,
      a.at_place ∙ ap nearest_place e ∙ sym b.at_place,
      ⊎_elim
          (λ z. finds_one (a.lowest_unused z) (b.lowest_unused (sym n ∙ z)))
          (λ z. a.none_told z ∙ sym (b.none_told (λ h. z (n ∙ h))))
          (eq_or_ne r 0),
      a.work ∙ ap (grid_work m old) n ∙ sym b.work,
    )
