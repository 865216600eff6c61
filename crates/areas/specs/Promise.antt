-- What the call for areas promises: a number by rules in order, and the areas of all cells with 0 behind them, or the slice as it was where the number is not 0.
-- `v` has the vertices' coordinates, two to a vertex; there is a site less than offsets, at least none. Definitions only.
use Rattle.std.specs.Prelude.{◌≡◌, true, List, [], ◌∷◌, ◌++◌, ℕ, zero, suc, ◌-◌, ◌/◌, ◌%◌, ◌^◌, ◌≤◌, ◌<◌, eqb, ltb, Float, length, get_or, take}
use Rattle.base.specs.common.Binary64 as B
use Rattle.base.specs.common.Pick.{pick}
use Rattle.base.specs.common.Refusals.{Rule, once, Finds}
use Rattle.base.specs.numbers.Numbers.{refused_count, refused_entry, refused_room, refused_corner}
use Rattle.plane.specs.points.Flat.{point_at}
use Rattle.plane.specs.centers.Circumcenter.{ok_center}
use Rattle.walks.specs.shared.Cells.{cell_of}
use Rattle.arguments.specs.asking.Asks.{cell_rules}
use Rattle.arguments.specs.entries.Named.{EntriesNamed}
use Rattle.ring_area.specs.Area.{ring_area}

-- the entries of all cells: those up to the last offset
abbrev pub entries_of_all : List ℕ → List ℕ → List ℕ
entries_of_all off ix = take (get_or off (length off - 1) 0) ix

-- each vertex named is finite and within 2 ^ 400, as rule 11 has it
pub record KeepsRule (v : List Float) (entries : List ℕ) : Type 0 where
  pub each : (k : ℕ) → k < length entries → ok_center (point_at v (get_or entries k 0)) ≡ true

-- 18, then 24
abbrev pub corner_rules : List Float → List ℕ → List (Rule ℕ)
corner_rules v entries = once refused_entry (EntriesNamed entries (length v / 2)) ∷ once refused_corner (KeepsRule v entries) ∷ []

-- 1 on the vertices and on the entries, 16, then these, then 2
abbrev pub area_rules : List Float → List ℕ → List ℕ → ℕ → List (Rule ℕ)
area_rules v off ix room =
    once refused_count (length v % 2 ≡ 0) ∷ once refused_count (length ix ≤ 2 ^ 24) ∷ cell_rules off ix (length off - 1)
    ++ corner_rules v (entries_of_all off ix) ++ once refused_room (length off - 1 ≤ room) ∷ []

-- the area of cell s, and 0 past the last
unfoldable pub area_at : List Float → List ℕ → List ℕ → ℕ → Float
area_at v off ix s = pick (ltb s (length off - 1)) (λ _. ring_area v (cell_of off ix s)) (λ _. B.zero)

-- f of n numbers from i on
unfoldable pub listed : (ℕ → Float) → ℕ → ℕ → List Float
listed f i zero = []
listed f i (suc n) = f i ∷ listed f (suc i) n

-- the slice after the number r
unfoldable pub areas_after : List Float → List ℕ → List ℕ → List Float → ℕ → List Float
areas_after v off ix old r = pick (eqb r 0) (λ _. listed (area_at v off ix) 0 (length old)) (λ _. old)

pub record EntriesNumber (v : List Float) (entries : List ℕ) (r : ℕ) : Type 0 where
  pub found : Finds (corner_rules v entries) 0 r

pub record AreasNumber (v : List Float) (off ix : List ℕ) (room r : ℕ) : Type 0 where
  pub found : Finds (area_rules v off ix room) 0 r

pub record AreasAnswer (v : List Float) (off ix : List ℕ) (old new : List Float) (r : ℕ) : Type 0 where
  pub number : AreasNumber v off ix (length old) r
  pub areas : new ≡ areas_after v off ix old r
