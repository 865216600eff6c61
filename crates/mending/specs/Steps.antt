-- What the steps of mending ask for and leave.
use Rattle.std.specs.Prelude.{◌≡◌, List, ℕ, ◌+◌, ◌*◌, ◌≤◌, ◌<◌, length}
use Rattle.base.specs.common.Refusals.{Finds}
use Rattle.base.specs.numbers.Numbers.{EMPTY}
use Rattle.mesh.specs.Mesh.{AllSound, leftmost_in}
use Rattle.mending.specs.pairs.Pairs.{pairs_of}
use Rattle.mending.specs.pairs.Chains.{NamesSites}
use Rattle.mending.specs.border.Loop.{hull_of}
use Rattle.mending.specs.Mending.{work_rules}
use Rattle.mending.specs.slices.Lent.{Lent, filled}

-- rules 1, 2 and 7 hold: n sites
pub record Ready (tri : List ℕ) (n : ℕ) (old : Lent) : Type 0 where
  pub named : NamesSites tri n
  pub sound : AllSound tri n
  pub few : n < EMPTY
  pub for_work : n ≤ length old.work
  pub for_pairs : length tri ≤ length old.pairs
  pub for_hull : n ≤ length old.mended
  pub for_chains : length tri ≤ length old.changes

-- the old lists, and room for their changes
pub record Lists (tri he hull : List ℕ) (n room : ℕ) : Type 0 where
  pub same : length he ≡ length tri
  pub some : 0 < length hull
  pub fits : length hull ≤ n
  pub for_changes : 3 * (length tri + n) ≤ room

pub record WorkedOut (tri : List ℕ) (first n : ℕ) (old new : Lent) (r k : ℕ) : Type 0 where
  pub found : Finds (work_rules tri n) 0 r
  pub work : r ≡ 0 → new.work ≡ leftmost_in tri (pairs_of tri) n (length old.work)
  pub pairs : r ≡ 0 → new.pairs ≡ filled (length old.pairs) (pairs_of tri)
  pub mended : r ≡ 0 → new.mended ≡ filled (length old.mended) (hull_of tri (pairs_of tri) first n)
  pub count : r ≡ 0 → k ≡ length (hull_of tri (pairs_of tri) first n)
