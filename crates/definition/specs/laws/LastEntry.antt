-- The last entry of a list of entries that is put together of two.
use Rattle.std.specs.Prelude.{◌≡◌, refl, List, [], ◌∷◌, ◌++◌, ℕ}
use Rattle.definition.specs.Cell.{Entry, last_or}

pub last_snoc : (l : ℕ) (es : List Entry) (e : Entry) → last_or l (es ++ e ∷ []) ≡ e.at
last_snoc l [] e = refl
last_snoc l (x ∷ es) e = last_snoc x.at es e

pub last_append : (l : ℕ) (es fs : List Entry) → last_or l (es ++ fs) ≡ last_or (last_or l es) fs
last_append l [] fs = refl
last_append l (e ∷ es) fs = last_append e.at es fs
