-- Theorem: any two results of writing that are allowed, number, length and output, are equal.
use Rattle.std.specs.Prelude.{◌≡◌, List, ℕ, ◌+◌, length, Float}
use Rattle.std.proofs.Common.{sym, ap, ◌∙◌}
use Rattle.std.proofs.lemmas.List.Edits.{sets}
use Rattle.base.specs.common.laws.Refusals.{finds_one}
use Rattle.wkb.specs.multipoint_writer.Promise.{file_after, WriteAnswer}

pub one_write : (sites : List Float) (old : List ℕ) {new new' : List ℕ} {w w' r r' : ℕ} → WriteAnswer sites old new w r → WriteAnswer sites old new' w' r'
    → (r ≡ r') × (w ≡ w') × (new ≡ new')
one_write sites old a b =
    let n = finds_one a.number b.number in
    let text : ℕ → List ℕ = file_after sites in (
      n,
      a.output.place ∙ ap (λ (k : ℕ). 0 + length (text k)) n ∙ sym b.output.place,
      a.output.list ∙ ap (λ (k : ℕ). sets old 0 (text k)) n ∙ sym b.output.list,
    )
