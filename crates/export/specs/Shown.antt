-- The steps of `export`: a build's answer as text, by its number and its lent slices, and the sizes within which everything has room.
use Rattle.std.specs.Prelude.{List, ℕ, ◌/◌, ◌≤◌, Float, get_or}
use Rattle.form.specs.Limits.{most_sites}
use Rattle.printing.specs.Rooms.{index_room}
use Rattle.wkb.specs.Polygon.{patterns}
use Rattle.export.specs.map_text.MapText.{map_text, Drawn}

-- n cells that can be drawn over a list of so many numbers, two to a vertex
pub record CanDraw (n numbers : ℕ) (off ix : List ℕ) : Type 0 where
  pub few : n ≤ most_sites
  pub drawn : Drawn off ix n (numbers / 2)
  pub short : get_or off n 0 ≤ index_room

abbrev pub lines : ℕ → List Float → List ℕ → List ℕ → List ℕ
lines n vertices off ix = map_text (patterns vertices) off ix n
