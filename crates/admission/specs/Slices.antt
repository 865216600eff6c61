-- The lent slices of a build, and what rule 2 asks of them.
use Rattle.std.specs.Prelude.{Bool, ◌&&◌, List, ℕ, ◌+◌, ◌*◌, ◌/◌, leb, ltb, Float, length}
use Rattle.mesh.specs.Accepted.{Mesh, site_count}

pub record Slices : Type 0 where
  pub work : List ℕ
  pub vertices : List Float
  pub indexes : List ℕ
  pub offsets : List ℕ
  pub counts : List ℕ

abbrev pub slices : List ℕ → List Float → List ℕ → List ℕ → List ℕ → Slices
slices w v ix off c = record { work = w; vertices = v; indexes = ix; offsets = off; counts = c }

-- for n sites, T triangles and h hull sites: slices of so many work entries, numbers, indexes, offsets and counts
unfoldable pub room_for : ℕ → ℕ → ℕ → ℕ → ℕ → ℕ → ℕ → ℕ → Bool
room_for n T h work numbers indexes offsets counts =
    leb n work && leb 9 counts && leb (7 * T + 5 * h + 4) (numbers / 2) && leb (12 * T + 8 * h + 4) indexes && ltb n offsets

abbrev pub room_of : Mesh → Slices → Bool
room_of m old =
    room_for (site_count m.sites) (length m.triangles / 3) (length m.hull) (length old.work) (length old.vertices) (length old.indexes) (length old.offsets) (length old.counts)
