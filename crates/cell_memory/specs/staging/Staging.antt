-- A list written into the index list.
use Rattle.std.specs.Prelude.{◌≡◌, List, ℕ, ◌+◌, ◌≤◌, ◌<◌, length, get_or}
use Rattle.std.proofs.lemmas.List.Edits.{sets}
use Rattle.mesh.specs.Mesh.{whole_of, Paired}

-- l stands from `at` on, `end` is the place after it, and nothing else has changed
pub record Staged (l : List ℕ) (at : ℕ) (old new : List ℕ) (end : ℕ) : Type 0 where
  pub ended : end ≡ at + length l
  pub written : new ≡ sets old at l

-- what staging the ring of hull place i needs: the stage before the extensions' numbers, and those within the list
pub record Stages (tri he hull table ix : List ℕ) (at xs i : ℕ) : Type 0 where
  pub paired : Paired tri he
  pub place : i < length hull
  pub site : get_or hull i 0 < length table
  pub stage : at + length (whole_of he (get_or table (get_or hull i 0) 0)) + 2 ≤ xs
  pub numbers : xs + length hull ≤ length ix
