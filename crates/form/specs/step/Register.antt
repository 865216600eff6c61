-- The reader's register. Definitions only.
use Rattle.std.specs.Prelude.{List, [], ◌∷◌, ℕ, ◌+◌, ◌*◌, ◌/◌, ◌^◌}

-- a register of eight bytes: each byte comes in at the top and moves the others down, so that it holds the number of the last eight
abbrev pub shift : ℕ → ℕ → ℕ
shift w b = w / 256 + b * 2 ^ 56

abbrev pub shifts : ℕ → List ℕ → ℕ
shifts w [] = w
shifts w (b ∷ s) = shifts (shift w b) s
