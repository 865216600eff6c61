-- The changes from an old list to a new one: each place at which the two differ, or that one of them alone has, with both entries; EMPTY where a list
-- has no such place. In a slice a change is three numbers.
use Rattle.std.specs.Prelude.{List, [], ◌∷◌, ◌++◌, Bool, false, ℕ, zero, suc, ◌+◌, ◌-◌, ltb, eqb, length, get_or}
use Rattle.base.specs.common.Pick.{pick}
use Rattle.base.specs.numbers.Numbers.{EMPTY}

pub record Difference : Type 0 where
  pub place : ℕ
  pub was : ℕ
  pub becomes : ℕ

-- both lists have place i, and the same entry there
unfoldable pub same_at : List ℕ → List ℕ → ℕ → Bool
same_at old new i = pick (ltb i (length old)) (λ _. pick (ltb i (length new)) (λ _. eqb (get_or old i 0) (get_or new i 0)) (λ _. false)) (λ _. false)

-- the change at place i, if there is one
unfoldable pub change_at : List ℕ → List ℕ → ℕ → List Difference
change_at old new i = pick (same_at old new i) (λ _. []) (λ _. record { place = i; was = get_or old i EMPTY; becomes = get_or new i EMPTY } ∷ [])

-- the changes at the places below n, rising
unfoldable pub changes_to : List ℕ → List ℕ → ℕ → List Difference
changes_to old new zero = []
changes_to old new (suc i) = changes_to old new i ++ change_at old new i

-- the length of the longer list
abbrev pub longer : List ℕ → List ℕ → ℕ
longer old new = length old + (length new - length old)

abbrev pub changes_of : List ℕ → List ℕ → List Difference
changes_of old new = changes_to old new (longer old new)

-- as they stand in a slice
abbrev pub flat_changes : List Difference → List ℕ
flat_changes [] = []
flat_changes (c ∷ cs) = c.place ∷ c.was ∷ c.becomes ∷ flat_changes cs
