-- What rule 23 is asked of: a mesh that rules 7 to 10 accept, and a work slice that begins with its leftmost table.
use Rattle.std.specs.Prelude.{◌≡◌, List, ◌≢◌, ℕ, ◌%◌, ◌≤◌, ◌<◌, length, take}
use Rattle.base.specs.numbers.Numbers.{EMPTY}
use Rattle.mesh.specs.Mesh.{pair_of, leftmost_of}

pub record FlipAsked (tri he table work : List ℕ) (sites : ℕ) : Type 0 where
  pub threes : length tri % 3 ≡ 0
  pub same : length he ≡ length tri
  pub small : length tri < EMPTY
  pub inside : (e : ℕ) → e < length he → pair_of he e ≢ EMPTY → pair_of he e < length tri
  pub table_room : sites ≤ length table
  pub work_room : sites ≤ length work
  pub worked_out : take sites work ≡ leftmost_of tri he sites
