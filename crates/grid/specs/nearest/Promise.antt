-- The promise of the check with the hull: the rules in the order in which they are tried, the answer's numbers, the lowest site in no triangle, and the
-- work slice at exit. The promise is the short form itself; what it is for is a theorem (crate nearest_laws).
use Rattle.std.specs.Prelude.{◌≡◌, List, [], ◌∷◌, ◌++◌, ◌≢◌, ℕ, length, Ok}
use Rattle.base.specs.common.Refusals.{Rule, each, reads, Finds}
use Rattle.base.specs.numbers.Numbers.{EMPTY}
use Rattle.mesh.specs.Mesh.{Used}
use Rattle.grid.specs.check.Promise.{GridMesh, grid_sites, grid_rules, grid_work}
use Rattle.grid.specs.border.ShortForm.{short_rules}
use Rattle.grid.specs.nearest.Judged.{NearestAnswer, of_grid, of_hull, nearest_number, nearest_kind, nearest_place}

-- the grid's rules, then the hull's
abbrev pub nearest_rules : GridMesh → ℕ → List (Rule NearestAnswer)
nearest_rules m w = reads of_grid (grid_rules m w) ++ reads of_hull (short_rules m.grid m.hull)

-- every site is in use
abbrev pub use_rules : GridMesh → List (Rule ℕ)
use_rules m = each (λ s. s) (grid_sites m) (Used m.triangles) ∷ []

pub record NearestChecks (m : GridMesh) (old new : List ℕ) (r kind place unused : ℕ) : Type 0 where
  pub answer : NearestAnswer
  pub found : Finds (nearest_rules m (length old)) (Ok tt) answer
  pub number : r ≡ nearest_number answer
  pub kind_is : kind ≡ nearest_kind answer
  pub at_place : place ≡ nearest_place answer
  -- the lowest site in no triangle, EMPTY where there is none and after a refusal
  pub lowest_unused : r ≡ 0 → Finds (use_rules m) EMPTY unused
  pub none_told : r ≢ 0 → unused ≡ EMPTY
  pub work : new ≡ grid_work m old r
