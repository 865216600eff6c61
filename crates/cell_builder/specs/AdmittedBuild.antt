-- What the build needs.
use Rattle.std.specs.Prelude.{◌≡◌, List, ℕ, ◌/◌, length}
use Rattle.plane.specs.boxes.Finite.{BoundedBox}
use Rattle.plane.specs.declared.boxes.BoundingBox.{BoundingBox}
use Rattle.mesh.specs.Accepted.{Mesh, table_of, Outlined, site_count}
use Rattle.cell_memory.specs.outputs.Outputs.{Rooms}

-- a mesh that the rules up to 9 accept with its leftmost table, a box that rule 3 admits, slices with room
pub record AdmittedBuild (m : Mesh) (table : List ℕ) (b : BoundingBox) (numbers indexes offsets : ℕ) : Type 0 where
  pub mesh : Outlined m
  pub table_is : table ≡ table_of m
  pub box : BoundedBox 101 b
  pub rooms : Rooms (length m.triangles / 3) (length m.hull) (site_count m.sites) numbers indexes offsets
