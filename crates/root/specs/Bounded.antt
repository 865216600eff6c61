-- A bound on a value: what the theorems on floats say that a computed value keeps.
use Rattle.std.specs.Prelude.{ℕ, ◌*◌, ◌^◌, ◌≤◌, Float}
use Rattle.std.specs.Float.{nan, inf, fin}
use Rattle.std.specs.Float.Ieee.{up, down}

-- finite, and of magnitude at most 2 ^ k
abbrev pub Bounded : ℕ → Float → Type 0
Bounded k nan = ⊥
Bounded k (inf s) = ⊥
Bounded k (fin s m e) = m * up e ≤ 2 ^ k * down e
