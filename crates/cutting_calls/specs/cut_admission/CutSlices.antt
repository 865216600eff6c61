-- The lent slices of a cutting, and what rule 2 asks of them.
use Rattle.std.specs.Prelude.{Bool, ◌&&◌, List, ℕ, ◌+◌, ◌*◌, ◌/◌, leb, ltb, Float, length}
use Rattle.mesh.specs.Accepted.{Mesh, site_count}

pub record CutSlices : Type 0 where
  pub work : List ℕ
  pub vertices : List Float
  pub indexes : List ℕ
  pub offsets : List ℕ

abbrev pub cut_slices : List ℕ → List Float → List ℕ → List ℕ → CutSlices
cut_slices w v ix off = record { work = w; vertices = v; indexes = ix; offsets = off }

-- for n sites, T triangles and h hull sites: slices of so many work entries, numbers, indexes and offsets
unfoldable pub cut_room_for : ℕ → ℕ → ℕ → ℕ → ℕ → ℕ → ℕ → Bool
cut_room_for n T h work numbers indexes offsets = leb n work && leb (7 * T + 2 * h + 4) (numbers / 2) && leb (16 * T + 11 * h) indexes && ltb n offsets

abbrev pub cut_room_of : Mesh → CutSlices → Bool
cut_room_of m old =
    cut_room_for (site_count m.sites) (length m.triangles / 3) (length m.hull) (length old.work) (length old.vertices) (length old.indexes) (length old.offsets)
