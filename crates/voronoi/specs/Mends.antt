-- The promise of the call that mends a mesh: the number, the four slices at exit, and three numbers. What they are: Mending of crate mending; what the
-- call is for: MendTheorem there.
use Rattle.std.specs.Prelude.{ℕ}
use Rattle.mesh.specs.Accepted.{Mesh}
use Rattle.mending.specs.slices.Lent.{Lent}
use Rattle.mending.specs.Mending.{Mends}

-- 1, 2, 6, 7, 19, 9, 10
abbrev pub Mend : Mesh → Lent → Lent → ℕ → ℕ → ℕ → ℕ → Type 0
Mend = Mends
