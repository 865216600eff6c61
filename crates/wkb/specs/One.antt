-- Theorem: any two results that are allowed, number, count and output, are equal.
use Rattle.std.specs.Prelude.{◌≡◌, List, ℕ, ◌+◌, length}
use Rattle.std.proofs.Common.{sym, ap, ◌∙◌}
use Rattle.std.proofs.lemmas.List.Edits.{sets}
use Rattle.base.specs.common.laws.Refusals.{finds_one}
use Rattle.walks.specs.shared.Cells.{cell_of}
use Rattle.wkb.specs.Promise.{image_after, WkbAnswer}

module _ (v off ix : List ℕ) (s : ℕ) (old : List ℕ) where
  pub one_wkb : {new new' : List ℕ} {w w' r r' : ℕ} → WkbAnswer v off ix s old new w r → WkbAnswer v off ix s old new' w' r' → (r ≡ r') × (w ≡ w') × (new ≡ new')
  one_wkb a b =
      let n = finds_one a.number b.number in
      let text : ℕ → List ℕ = image_after v (cell_of off ix s) in (
        n,
        a.output.place ∙ ap (λ (k : ℕ). 0 + length (text k)) n ∙ sym b.output.place,
        a.output.list ∙ ap (λ (k : ℕ). sets old 0 (text k)) n ∙ sym b.output.list,
      )
