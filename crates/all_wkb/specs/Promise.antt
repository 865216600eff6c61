-- What the call for the polygons of all cells promises: a number by rules in order, the images one after the other with where each begins, and how many bytes they are. Refused, both slices
-- are as they were; after 0 the starts are 2^64 - 1 behind the last, and the output is as it was behind the images. `v` has the vertices' coordinates, two to a vertex. Definitions only.
use Rattle.std.specs.Prelude.{◌≡◌, List, [], ◌∷◌, ◌++◌, ℕ, ◌-◌, ◌/◌, ◌%◌, ◌^◌, ◌≤◌, eqb, Float, length}
use Rattle.base.specs.common.Pick.{pick}
use Rattle.base.specs.common.Refusals.{Rule, once, Finds}
use Rattle.base.specs.numbers.Numbers.{refused_count, refused_entry, refused_room}
use Rattle.walks.specs.shared.Cells.{cell_of}
use Rattle.arguments.specs.asking.Asks.{cell_rules}
use Rattle.arguments.specs.entries.Named.{EntriesNamed}
use Rattle.octets.specs.Wrote.{Wrote}
use Rattle.cell_memory.specs.layout.Regions.{joined, offsets_from}
use Rattle.cell_memory.specs.layout.Cleared.{padded}
use Rattle.queries.specs.all_neighbours.Lists.{lists_to}
use Rattle.areas.specs.Promise.{entries_of_all}
use Rattle.wkb.specs.Polygon.{patterns}
use Rattle.wkb.specs.Promise.{image}

-- the image of cell s, as the call for one cell writes it
abbrev pub image_at : List Float → List ℕ → List ℕ → ℕ → List ℕ
image_at v off ix s = image (patterns v) (cell_of off ix s)

-- of every cell; there is one less than offsets
abbrev pub images_of : List Float → List ℕ → List ℕ → List (List ℕ)
images_of v off ix = lists_to (image_at v off ix) (length off - 1)

-- 1 on the vertices and on the entries, 16, 18 on the entries of all cells
abbrev pub rings_rules : List Float → List ℕ → List ℕ → List (Rule ℕ)
rings_rules v off ix =
    once refused_count (length v % 2 ≡ 0) ∷ once refused_count (length ix ≤ 2 ^ 24) ∷ cell_rules off ix (length off - 1)
    ++ once refused_entry (EntriesNamed (entries_of_all off ix) (length v / 2)) ∷ []

-- 2 on the starts, one more than cells, and on the output
abbrev pub room_rules : List Float → List ℕ → List ℕ → ℕ → ℕ → List (Rule ℕ)
room_rules v off ix starts out = once refused_room (length off ≤ starts) ∷ once refused_room (length (joined (images_of v off ix)) ≤ out) ∷ []

-- behind the last start
abbrev pub no_start : ℕ
no_start = 18446744073709551615

-- the starts after the number r
unfoldable pub starts_after : List Float → List ℕ → List ℕ → List ℕ → ℕ → List ℕ
starts_after v off ix st r = pick (eqb r 0) (λ _. padded (length st) no_start (offsets_from 0 (images_of v off ix))) (λ _. st)

-- what is written after it
unfoldable pub images_after : List Float → List ℕ → List ℕ → ℕ → List ℕ
images_after v off ix r = pick (eqb r 0) (λ _. joined (images_of v off ix)) (λ _. [])

pub record CellsNumber (v : List Float) (off ix : List ℕ) (r : ℕ) : Type 0 where
  pub found : Finds (rings_rules v off ix) 0 r

pub record AllNumber (v : List Float) (off ix : List ℕ) (starts out r : ℕ) : Type 0 where
  pub found : Finds (rings_rules v off ix ++ room_rules v off ix starts out) 0 r

pub record AllWkbAnswer (v : List Float) (off ix st st' o o' : List ℕ) (written r : ℕ) : Type 0 where
  pub number : AllNumber v off ix (length st) (length o) r
  pub starts : st' ≡ starts_after v off ix st r
  pub output : Wrote o o' 0 written (images_after v off ix r)
