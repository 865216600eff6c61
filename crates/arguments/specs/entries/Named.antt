-- Rule 18, for every call that is lent entries. Definitions only.
use Rattle.std.specs.Prelude.{List, ℕ, ◌<◌, length, get_or}

-- each entry names one of n
pub record EntriesNamed (entries : List ℕ) (n : ℕ) : Type 0 where
  pub each : (k : ℕ) → k < length entries → get_or entries k 0 < n
