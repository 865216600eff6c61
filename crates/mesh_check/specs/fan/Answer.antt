-- What rule 10 answers: the lowest site whose half-edges are not all reached from its leftmost one, or the number of sites. The slice then holds
-- the table, or what counting down has left of it.
use Rattle.std.specs.Prelude.{◌≡◌, List, ℕ, ◌≤◌, ◌<◌, length}
use Rattle.base.specs.common.Decide.{First}
use Rattle.mesh_check.specs.fan.Counts.{CountedDown}
use Rattle.mesh.specs.Mesh.{FanAt, leftmost_of, leftmost_in}

pub record FanAnswer (tri he : List ℕ) (sites : ℕ) (old new : List ℕ) (r : ℕ) : Type 0 where
  pub first : First (FanAt tri he (leftmost_of tri he sites)) sites r
  pub table : sites ≤ r → new ≡ leftmost_in tri he sites (length old)
  pub owed : r < sites → CountedDown tri he (leftmost_in tri he sites (length old)) new
