-- What handing out a list with an allowance leaves in a lent slice.
use Rattle.std.specs.Prelude.{◌≡◌, List, ◌++◌, Bool, ℕ, leb, length, take, drop}

-- the beginning of the whole, up to the slice's length, then what was there; how many that is, and whether it is all
pub record Fills (whole old new : List ℕ) (count : ℕ) (ended : Bool) : Type 0 where
  pub counted : count ≡ length (take (length old) whole)
  pub entries : new ≡ take (length old) whole ++ drop count old
  pub over : ended ≡ leb (length whole) (length old)
