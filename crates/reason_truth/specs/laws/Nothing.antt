-- Whether a list has none or some, by its test, both ways.
use Rattle.std.specs.Prelude.{◌≡◌, refl, true, false, List, [], ◌∷◌, ◌≢◌, ℕ, length}
use Rattle.std.proofs.Common.{ap, arith, ltb-false}
use Rattle.base.specs.common.Count.{occ}
use Rattle.walks.specs.shared.Cells.{holds_of}
use Rattle.reasons.specs.Answer.{is_none}

pub is_none_lem : (l : List ℕ) → is_none l ≡ true → l ≡ []
is_none_lem [] e = refl
is_none_lem (x ∷ l) e = let z : ◌≡◌ {A = ℕ} 0 1 = cc in absurd (omega arith)

pub is_some : (l : List ℕ) → is_none l ≡ false → l ≢ []
is_some [] e q = let z : ◌≡◌ {A = ℕ} 0 1 = cc in absurd (omega arith)
is_some (x ∷ l) e q = omega (arith, ap length q)

pub none_is : (l : List ℕ) → l ≡ [] → is_none l ≡ true
none_is l q = rw q

pub some_is : (l : List ℕ) → l ≢ [] → is_none l ≡ false
some_is [] n = absurd (n refl)
some_is (x ∷ l) n = refl

pub holds_none : (v : ℕ) (l : List ℕ) → holds_of l v ≡ false → occ v l ≡ 0
holds_none v l e = omega (arith, ltb-false 0 (occ v l) e)
