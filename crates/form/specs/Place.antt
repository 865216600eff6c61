-- The byte of a refusal: the first after which no sound form can follow, or the length of a form that has not ended; and its number.
use Rattle.std.specs.Prelude.{◌≡◌, Bool, List, [], ◌∷◌, ◌++◌, ◌⊎◌, ℕ, ◌+◌, ◌≤◌, ◌<◌, length, get_or, take}
use Rattle.base.specs.numbers.Numbers.{refused_form, refused_unclipped}
use Rattle.form.specs.Form.{IsForm}

-- some sound form begins so
pub record StartsForm (old : Bool) (s : List ℕ) : Type 0 where
  pub rest : List ℕ
  pub form : IsForm old (s ++ rest)

pub record Place (old : Bool) (s : List ℕ) (k : ℕ) : Type 0 where
  pub within : k ≤ length s
  pub before : StartsForm old (take k s)
  pub at : k < length s → StartsForm old (take (k + 1) s) → ⊥
  pub ended : k ≡ length s → IsForm old s → ⊥

-- a kind is expected after these bytes, and the form has not ended: nothing has come, or the end would make them a form
abbrev pub Expects : Bool → List ℕ → Type 0
Expects old s = (s ≡ []) ⊎ IsForm old (s ++ 5 ∷ [])

-- the word that there is no box
abbrev pub SixAt : Bool → List ℕ → ℕ → Type 0
SixAt old s k = (get_or s k 0 ≡ 6) × Expects old (take k s)

-- 20 exactly there, and else 17
pub record NumberAt (old : Bool) (s : List ℕ) (k n : ℕ) : Type 0 where
  pub six : SixAt old s k → n ≡ refused_unclipped
  pub other : (SixAt old s k → ⊥) → n ≡ refused_form
