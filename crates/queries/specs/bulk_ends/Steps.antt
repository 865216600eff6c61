-- What the steps to the answer owe each other. Definitions only.
use Rattle.std.specs.Prelude.{◌≡◌, true, List, ℕ, ◌/◌, ◌≤◌, ◌<◌, Float, length}
use Rattle.base.specs.common.Refusals.{Finds}
use Rattle.base.specs.numbers.Numbers.{EMPTY}
use Rattle.plane.specs.points.Flat.{point_at}
use Rattle.mesh.specs.Accepted.{Mesh, Accepted, site_count}
use Rattle.mesh_check.specs.whole.AtExit.{when_refused}
use Rattle.mesh_check.specs.whole.Answers.{work_after}
use Rattle.walks.specs.paths.PathNeeds.{Walkable, Towards}
use Rattle.queries.specs.bulk_ends.Promise.{ends_room, PointsKept, all_rules}

-- paths can be walked from each of n sites to each point, s is a site, and there is room for an end of each
pub record Reachable (sites : List Float) (tri he table : List ℕ) (s : ℕ) (points : List Float) (out : ℕ) : Type 0 where
  pub walkable : Walkable tri he table (length sites / 2)
  pub towards : (i : ℕ) → i < length points / 2 → Towards sites (point_at points i) (length sites / 2)
  pub site : s < length sites / 2
  pub room : length points / 2 ≤ out

-- the rules up to 10 tried, w and o being the work slice and the output, w' and o' then
pub record EndsAdmission (m : Mesh) (s : ℕ) (points : List Float) (w w' o o' : List ℕ) (r : ℕ) : Type 0 where
  pub found : Finds (all_rules m s points (length w) (length o)) 0 r
  pub mesh : r ≡ 0 → Accepted m
  pub room : r ≡ 0 → ends_room (site_count m.sites) (length points / 2) (length w) (length o) ≡ true
  pub site : r ≡ 0 → s < site_count m.sites
  pub kept : r ≡ 0 → PointsKept points
  pub work : w' ≡ work_after m w r
  pub out : o' ≡ when_refused EMPTY o r
