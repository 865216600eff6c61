-- What neighbours after clipping need of a mesh and of the cells of its sites.
use Rattle.std.specs.Prelude.{◌≡◌, List, ℕ, ◌+◌, ◌<◌, length, get_or}
use Rattle.mesh.specs.Mesh.{Paired}
use Rattle.walks.specs.shared.Cells.{Cells}

-- the cells of all sites, cut from ix by off
pub record Clippable (tri he off ix : List ℕ) : Type 0 where
  pub paired : Paired tri he
  pub even : length he ≡ length tri
  pub named : (e : ℕ) → e < length tri → get_or tri e 0 + 1 < length off
  pub cells : Cells off (length ix)
