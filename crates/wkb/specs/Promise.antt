-- What the calls that write a cell's polygon promise: a number by rules in order, the bytes written, and the output, which is the image and behind it as it was,
-- or as it was where the number is not 0. `v` has the vertices' patterns, two to a vertex. Definitions only.
use Rattle.std.specs.Prelude.{◌≡◌, List, [], ◌∷◌, ◌++◌, ℕ, ◌+◌, ◌-◌, ◌/◌, ◌%◌, ◌^◌, ◌≤◌, ◌<◌, eqb, Float, length}
use Rattle.base.specs.common.Pick.{pick}
use Rattle.base.specs.common.Refusals.{Rule, once, Finds}
use Rattle.base.specs.numbers.Numbers.{refused_count, refused_entry, refused_room}
use Rattle.walks.specs.shared.Cells.{cell_of}
use Rattle.arguments.specs.asking.Asks.{site_rules, cell_rules}
use Rattle.arguments.specs.entries.Named.{EntriesNamed}
use Rattle.octets.specs.Wrote.{Wrote}
use Rattle.wkb.specs.Polygon.{patterns_of, patterns, polygon, size}

-- the image of n points fits: a ring of 2^32 points has no count of four bytes, so no output is long enough for it
pub record ImageFits (n room : ℕ) : Type 0 where
  pub counted : n + 1 < 2 ^ 32
  pub long : size n ≤ room

-- 18 on the cell's entries, then 2
abbrev pub entry_rules : List ℕ → List ℕ → ℕ → List (Rule ℕ)
entry_rules v cell room = once refused_entry (EntriesNamed cell (length v / 2)) ∷ once refused_room (ImageFits (length cell) room) ∷ []

-- 1 on the vertices, 4 on the site, 16 on the offsets, then these
abbrev pub wkb_rules : List ℕ → List ℕ → List ℕ → ℕ → ℕ → List (Rule ℕ)
wkb_rules v off ix s room =
    once refused_count (length v % 2 ≡ 0) ∷ site_rules (length off - 1) s ++ cell_rules off ix (length off - 1) ++ entry_rules v (cell_of off ix s) room

-- the image of a cell
abbrev pub image : List ℕ → List ℕ → List ℕ
image v cell = polygon (patterns_of v cell)

-- after the number r
abbrev pub image_after : List ℕ → List ℕ → ℕ → List ℕ
image_after v cell r = pick (eqb r 0) (λ _. image v cell) (λ _. [])

pub record WkbAnswer (v off ix : List ℕ) (s : ℕ) (old new : List ℕ) (written r : ℕ) : Type 0 where
  pub number : Finds (wkb_rules v off ix s (length old)) 0 r
  pub output : Wrote old new 0 written (image_after v (cell_of off ix s) r)

-- of vertices as floats
abbrev pub FloatAnswer : List Float → List ℕ → List ℕ → ℕ → List ℕ → List ℕ → ℕ → ℕ → Type 0
FloatAnswer vertices = WkbAnswer (patterns vertices)

-- of a cell that was found already
pub record EntriesAnswer (v cell old new : List ℕ) (written r : ℕ) : Type 0 where
  pub number : Finds (entry_rules v cell (length old)) 0 r
  pub output : Wrote old new 0 written (image_after v cell r)
