-- A lent slice cleared from a place on, or after what is written at its beginning.
use Rattle.std.specs.Prelude.{ℕ, ◌-◌, List, ◌++◌, length, take, replicate}

-- the first n entries of l, then a up to its length
abbrev pub cleared_from : {A : Type 0} → ℕ → A → List A → List A
cleared_from n a l = take n l ++ replicate (length l - n) a

-- l, then a up to n entries
abbrev pub padded : {A : Type 0} → ℕ → A → List A → List A
padded n a l = l ++ replicate (n - length l) a
