-- What a call asks of its own arguments, as rules with their answers: 4 on a site, then 5 on a destination; 3 on a box; 16 on lent cells.
use Rattle.std.specs.Prelude.{◌≡◌, Bool, true, List, [], ◌∷◌, ℕ, ◌+◌, ◌<◌, length}
use Rattle.base.specs.common.Refusals.{Rule, once, Finds}
use Rattle.base.specs.numbers.Numbers.{refused_box, refused_site, refused_destination, refused_triangle, refused_offsets}
use Rattle.plane.specs.points.Rules.{ok_site}
use Rattle.plane.specs.declared.points.Point.{Point}
use Rattle.walks.specs.shared.Cells.{Cells}

-- site s of n
abbrev pub site_rules : ℕ → ℕ → List (Rule ℕ)
site_rules n s = once refused_site (s < n) ∷ []

-- from site s of n to p
abbrev pub path_rules : ℕ → ℕ → Point → List (Rule ℕ)
path_rules n s p = once refused_site (s < n) ∷ once refused_destination (ok_site p ≡ true) ∷ []

-- a given box, sound or not
abbrev pub box_rules : Bool → List (Rule ℕ)
box_rules sound = once refused_box (sound ≡ true) ∷ []

-- the number that the rules `own` give, which is below those on the mesh
pub record Asked (own : List (Rule ℕ)) (r : ℕ) : Type 0 where
  pub found : Finds own 0 r
  pub small : r < refused_triangle

-- the offsets cut the index list into a cell for each of n sites
pub record CellsOf (off ix : List ℕ) (n : ℕ) : Type 0 where
  pub many : length off ≡ n + 1
  pub cut : Cells off (length ix)

abbrev pub cell_rules : List ℕ → List ℕ → ℕ → List (Rule ℕ)
cell_rules off ix n = once refused_offsets (CellsOf off ix n) ∷ []
