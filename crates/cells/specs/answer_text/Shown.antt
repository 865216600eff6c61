-- What `cells` shows of a build: the listing by its lent slices, and the sizes within which it has room.
use Rattle.std.specs.Prelude.{List, [], ◌∷◌, ℕ, ◌≤◌, get_or}
use Rattle.form.specs.Limits.{most_sites}
use Rattle.printing.specs.Rooms.{index_room}
use Rattle.cells.specs.listing.Listing.{listing}
use Rattle.printing.specs.parts.Listed.{Layout}

-- cells that a listing can go by, with room for its text
pub record Laid (n : ℕ) (off ix : List ℕ) (space : ℕ) : Type 0 where
  pub few : n ≤ most_sites
  pub layout : Layout off ix n
  pub short : get_or off n 0 ≤ index_room
  pub room : 65536 ≤ space

-- n sites, T triangles; the lent counts are the vertices, the four owners, the lost corners and the reused points of each kind
abbrev pub box_lines : ℕ → ℕ → List ℕ → List ℕ → List ℕ → List ℕ
box_lines n T off ix c =
    listing n T (get_or c 0 0) off ix (get_or c 1 0 ∷ get_or c 2 0 ∷ get_or c 3 0 ∷ get_or c 4 0 ∷ []) (get_or c 5 0) (get_or c 6 0) (get_or c 7 0) (get_or c 8 0)
