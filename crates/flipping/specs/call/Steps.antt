-- What the steps of a flip ask and answer.
use Rattle.std.specs.Prelude.{◌≡◌, List, ℕ, ◌%◌, ◌≤◌, ◌<◌, eqb, length, replicate}
use Rattle.base.specs.common.Pick.{pick}
use Rattle.base.specs.common.Refusals.{Finds}
use Rattle.base.specs.numbers.Numbers.{EMPTY}
use Rattle.mesh.specs.Mesh.{leftmost_in}
use Rattle.flipping.specs.call.Flips.{flip_late}

-- lists of fitting lengths
pub record Checkable (tri he hull table work : List ℕ) (sites : ℕ) : Type 0 where
  pub threes : length tri % 3 ≡ 0
  pub same : length he ≡ length tri
  pub small : length tri < EMPTY
  pub few : length hull < EMPTY
  pub table_room : sites ≤ length table
  pub work_room : sites ≤ length work

-- 7 to 10 and 23: the number, and the work slice
pub record Judges (tri he hull table : List ℕ) (sites a : ℕ) (old new : List ℕ) (r : ℕ) : Type 0 where
  pub number : Finds (flip_late tri he hull table sites a) 0 r
  pub work : new ≡ pick (eqb r 0) (λ _. leftmost_in tri he sites (length old)) (λ _. replicate (length old) EMPTY)
