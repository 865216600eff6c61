-- What the theorem on wrapping says of a build: corners are wrapped at most once, by their owners, which paths find.
use Rattle.std.specs.Prelude.{◌≡◌, List, [], ◌∷◌, ℕ, ◌+◌, ◌/◌, ◌≤◌, ◌<◌, Float, length, get_or}
use Rattle.base.specs.common.Count.{occ}
use Rattle.plane.specs.declared.points.Point.{Point}
use Rattle.plane.specs.boxes.Box.{corners_of}
use Rattle.plane.specs.declared.boxes.BoundingBox.{BoundingBox}
use Rattle.mesh.specs.Accepted.{Mesh, table_of}
use Rattle.walks.specs.paths.Path.{last_of, whole_path}
use Rattle.definition.specs.Build.{wrapped_in, all_wrapped, Built}

-- the paths to the corners
unfoldable pub corner_paths : List Float → List ℕ → List ℕ → List ℕ → ℕ → List Point → List (List ℕ)
corner_paths sites tri he table s [] = []
corner_paths sites tri he table s (corner ∷ corners) =
    let p = whole_path sites tri he table corner s in
    p ∷ corner_paths sites tri he table (last_of p) corners

-- the path to corner c, which is vertex T + c
abbrev pub path_to : Mesh → BoundingBox → ℕ → List ℕ
path_to m b c = get_or (corner_paths m.sites m.triangles m.halfedges (table_of m) (get_or m.hull 0 0) (corners_of b)) c []

-- each corner is wrapped at most once over all cells, and only in the cell of the site that is the last entry of its path; and nothing else is wrapped
pub record Wrapping (m : Mesh) (b : BoundingBox) (r : Built) : Type 0 where
  pub once : (c : ℕ) → c < 4 → occ (length m.triangles / 3 + c) (all_wrapped r.cells) ≤ 1
  pub there : (c s : ℕ) → c < 4 → 0 < occ (length m.triangles / 3 + c) (wrapped_in (get_or r.cells s [])) → s ≡ last_of (path_to m b c)
  pub corners : (v s : ℕ) → 0 < occ v (wrapped_in (get_or r.cells s [])) → (length m.triangles / 3 ≤ v) × (v < length m.triangles / 3 + 4)
  pub owners : (c : ℕ) → c < 4 → get_or r.owners c 0 ≡ last_of (path_to m b c)
