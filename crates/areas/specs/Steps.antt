-- What the steps to the answer owe each other. Definitions only.
use Rattle.std.specs.Prelude.{◌≡◌, List, ℕ, ◌/◌, ◌^◌, ◌≤◌, Float, length}
use Rattle.walks.specs.shared.Cells.{Cells}
use Rattle.arguments.specs.entries.Named.{EntriesNamed}
use Rattle.areas.specs.Promise.{entries_of_all, KeepsRule, area_at, listed}

-- what the rules before 2 ask
pub record RingsKept (v : List Float) (off ix : List ℕ) : Type 0 where
  pub cut : Cells off (length ix)
  pub few : length ix ≤ 2 ^ 24
  pub named : EntriesNamed (entries_of_all off ix) (length v / 2)
  pub kept : KeepsRule v (entries_of_all off ix)

-- the slice written throughout
pub record WrittenAreas (v : List Float) (off ix : List ℕ) (old new : List Float) : Type 0 where
  pub areas : new ≡ listed (area_at v off ix) 0 (length old)
