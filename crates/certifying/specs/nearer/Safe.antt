-- What the search of the fourth fault asks. Definitions only.
use Rattle.std.specs.Prelude.{List, ℕ, ◌+◌, ◌*◌, ◌/◌, ◌≤◌, ◌<◌, Float, length}
use Rattle.plane.specs.points.Sites.{KeptAt}
use Rattle.areas.specs.Steps.{RingsKept}
use Rattle.auditing.specs.nearer.Steps.{PiecesKept}

-- pieces that keep the rules, and two words of room to a site and 64
pub record NearSafe (sites v : List Float) (off ix room : List ℕ) : Type 0 where
  pub pieces : PiecesKept sites v off ix
  pub rings : RingsKept v off ix
  pub sites_kept : (s : ℕ) → s < length sites / 2 → KeptAt sites s
  pub few : length sites / 2 ≤ 65536
  pub roomy : 2 * (length sites / 2) + 64 ≤ length room
