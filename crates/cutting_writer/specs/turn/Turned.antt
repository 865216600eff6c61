-- A part of a list the other way round.
use Rattle.std.specs.Prelude.{List, ◌++◌, ℕ, ◌-◌, take, drop}
use Rattle.cutting.specs.cuts.Written.{backward}

abbrev pub turned_round : {A : Type 0} → ℕ → ℕ → List A → List A
turned_round from to l = take from l ++ (backward (take (to - from) (drop from l)) ++ drop to l)
