-- The sites of the grid as floats: each whole number as a float, the rules in the order in which they are tried, and the slice at exit.
use Rattle.std.specs.Prelude.{◌≡◌, List, [], ◌∷◌, ◌++◌, map, ℕ, ◌-◌, ◌/◌, ◌%◌, ◌≤◌, eqb, Float, ℤ, length, replicate}
use Rattle.std.specs.Float.{binary64}
use Rattle.std.specs.Float.Ieee.{of_int}
use Rattle.base.specs.common.Binary64.{zero}
use Rattle.base.specs.common.Pick.{pick}
use Rattle.base.specs.common.Refusals.{Rule, once, each, Finds}
use Rattle.base.specs.numbers.Numbers.{refused_count, refused_room, refused_grid}
use Rattle.grid.specs.Plane.{WithinAt}

abbrev pub as_float : ℤ → Float
as_float v = of_int binary64 v

abbrev pub floats_of : List ℤ → List Float
floats_of grid = map as_float grid

-- rule 1 of the sites alone, by the number of coordinates
pub record SitesCounted (coordinates : ℕ) : Type 0 where
  pub even : coordinates % 2 ≡ 0
  pub three_sites : 3 ≤ coordinates / 2
  pub few_sites : coordinates / 2 ≤ 65536

-- 1, 2 for a slice of w numbers, 22
abbrev pub grid_site_rules : List ℤ → ℕ → List (Rule ℕ)
grid_site_rules grid w =
    once refused_count (SitesCounted (length grid))
    ∷ once refused_room (length grid ≤ w)
    ∷ each (λ _. refused_grid) (length grid / 2) (WithinAt grid)
    ∷ []

-- the floats, then +0
abbrev pub sites_made : List ℤ → ℕ → List Float
sites_made grid w = floats_of grid ++ replicate (w - length grid) zero

pub record GridSites (grid : List ℤ) (old new : List Float) (r : ℕ) : Type 0 where
  pub number : Finds (grid_site_rules grid (length old)) 0 r
  pub sites : new ≡ pick (eqb r 0) (λ _. sites_made grid (length old)) (λ _. old)
