-- How demand 3 speaks of wrapping: of marked cells whose marks taken off are the cells that a build left in its slices.
use Rattle.std.specs.Prelude.{◌≡◌, List, [], ◌∷◌, map, ℕ, suc, ◌+◌, ◌/◌, ◌≤◌, ◌<◌, length, get_or, drop}
use Rattle.std.specs.Float.{nan}
use Rattle.base.specs.numbers.Numbers.{EMPTY}
use Rattle.base.specs.common.Count.{occ}
use Rattle.plane.specs.points.Plane.{at}
use Rattle.plane.specs.points.Flat.{point_at}
use Rattle.plane.specs.boxes.Box.{corners_of}
use Rattle.plane.specs.declared.boxes.BoundingBox.{BoundingBox}
use Rattle.mesh.specs.Accepted.{Mesh, site_count}
use Rattle.cell_memory.specs.layout.Regions.{joined, offsets_from}
use Rattle.definition.specs.Cell.{Entry, unmarked}
use Rattle.definition.specs.Build.{wrapped_in, all_wrapped, lost_from, Built, build}
use Rattle.definition.specs.Fault.{ok}
use Rattle.cell_memory.specs.layout.Cleared.{padded}
use Rattle.admission.specs.Slices.{Slices}
use Rattle.voronoi.specs.Approach.{PathStops}

-- corner c is vertex T + c, and its owner stands in the counts after the number of vertices
pub record Wraps (m : Mesh) (b : BoundingBox) (old new : Slices) : Type 0 where
  -- marked cells, one for each site, whose marks taken off are the cells in the slices; the corners among the vertices
  pub marked : List (List Entry)
  pub made : Built
  pub is : build m b ≡ ok made
  pub marked_is : marked ≡ made.cells
  pub many : length marked ≡ site_count m.sites
  pub indexes : new.indexes ≡ padded (length old.indexes) EMPTY (joined (map unmarked marked))
  pub offsets : new.offsets ≡ padded (length old.offsets) EMPTY (offsets_from 0 (map unmarked marked))
  pub corners : (c : ℕ) → c < 4 → point_at new.vertices (length m.triangles / 3 + c) ≡ get_or (corners_of b) c (at nan nan)
  -- each corner at most once over all cells, only in its owner's; and nothing else is wrapped
  pub once : (c : ℕ) → c < 4 → occ (length m.triangles / 3 + c) (all_wrapped marked) ≤ 1
  pub by_owner : (c s : ℕ) → c < 4 → 0 < occ (length m.triangles / 3 + c) (wrapped_in (get_or marked s [])) → s ≡ get_or new.counts (suc c) 0
  pub corners_alone : (v s : ℕ) → 0 < occ v (wrapped_in (get_or marked s [])) → (length m.triangles / 3 ≤ v) × (v < length m.triangles / 3 + 4)
  -- the owner is where the path to the corner ends, the first one from the first hull site, each next one from the owner before
  pub owners : (c : ℕ) → c < 4 → PathStops m (get_or (corners_of b) c (at nan nan)) (get_or (get_or m.hull 0 0 ∷ drop 1 new.counts) c 0) (get_or new.counts (suc c) 0)
  -- the lost corners are those that stand in no cell, whatever the marks
  pub lost : get_or new.counts 5 0 ≡ lost_from (length m.triangles / 3) 4 marked
