-- What the admission of the call owes to the rest. Definitions only.
use Rattle.std.specs.Prelude.{◌≡◌, List, [], ℕ, ◌<◌, length}
use Rattle.base.specs.common.Refusals.{Finds}
use Rattle.base.specs.numbers.Numbers.{EMPTY}
use Rattle.mesh.specs.Rules.{call_rules}
use Rattle.mesh.specs.Accepted.{Mesh, Accepted}
use Rattle.mesh_check.specs.whole.AtExit.{when_refused}
use Rattle.mesh_check.specs.whole.Answers.{work_after}
use Rattle.queries.specs.bulk_neighbours.Promise.{RoomFor}

-- the rules up to 10 tried, w, st and o being the work slice, the starts and the output, w', st' and o' then
pub record ListsAdmission (m : Mesh) (w w' st st' o o' : List ℕ) (r : ℕ) : Type 0 where
  pub found : Finds (call_rules m (RoomFor m (length w) (length st) (length o)) []) 0 r
  pub few : r < 11
  pub mesh : r ≡ 0 → Accepted m
  pub room : r ≡ 0 → RoomFor m (length w) (length st) (length o)
  pub work : w' ≡ work_after m w r
  pub starts : st' ≡ when_refused EMPTY st r
  pub out : o' ≡ when_refused EMPTY o r
