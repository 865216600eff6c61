-- Theorem: any two results that are allowed, number, starts, bytes written and output, are equal.
use Rattle.std.specs.Prelude.{◌≡◌, List, ℕ, ◌+◌, Float, length}
use Rattle.std.proofs.Common.{sym, ap, ◌∙◌}
use Rattle.std.proofs.lemmas.List.Edits.{sets}
use Rattle.base.specs.common.laws.Refusals.{finds_one}
use Rattle.all_wkb.specs.Promise.{starts_after, images_after, AllWkbAnswer}

pub one_all_wkb : (v : List Float) (off ix st o : List ℕ) {st' st'' o' o'' : List ℕ} {w w' r r' : ℕ} → AllWkbAnswer v off ix st st' o o' w r → AllWkbAnswer v off ix st st'' o o'' w' r'
    → (r ≡ r') × (w ≡ w') × (st' ≡ st'') × (o' ≡ o'')
one_all_wkb v off ix st o a b =
    let n = finds_one a.number.found b.number.found in
    let text : ℕ → List ℕ = images_after v off ix in (
      n,
      a.output.place ∙ ap (λ (k : ℕ). 0 + length (text k)) n ∙ sym b.output.place,
      a.starts ∙ ap (starts_after v off ix st) n ∙ sym b.starts,
      a.output.list ∙ ap (λ (k : ℕ). sets o 0 (text k)) n ∙ sym b.output.list,
    )
