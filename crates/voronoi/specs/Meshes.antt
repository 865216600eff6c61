-- The promise of the check of a lent mesh: its number by the rules of a mesh, and the work slice at exit.
use Rattle.std.specs.Prelude.{◌≡◌, List, [], ℕ}
use Rattle.mesh.specs.Accepted.{Mesh}
use Rattle.mesh_check.specs.whole.Answers.{work_after}
use Rattle.queries.specs.Answers.{Number}

-- old is what the work slice held before, new what it holds at exit
pub record Check (m : Mesh) (old new : List ℕ) (r : ℕ) : Type 0 where
  pub number : Number m old [] [] r
  pub work : new ≡ work_after m old r
