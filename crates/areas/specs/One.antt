-- Theorem: any two results that are allowed, number and areas, are equal.
use Rattle.std.specs.Prelude.{◌≡◌, List, ℕ, Float}
use Rattle.std.proofs.Common.{sym, ap, ◌∙◌}
use Rattle.base.specs.common.laws.Refusals.{finds_one}
use Rattle.areas.specs.Promise.{areas_after, AreasAnswer}

pub one_areas : (v : List Float) (off ix : List ℕ) (old : List Float) {new new' : List Float} {r r' : ℕ} → AreasAnswer v off ix old new r → AreasAnswer v off ix old new' r'
    → (r ≡ r') × (new ≡ new')
one_areas v off ix old a b =
    let n = finds_one a.number.found b.number.found in
    (n, a.areas ∙ ap (areas_after v off ix old) n ∙ sym b.areas)
