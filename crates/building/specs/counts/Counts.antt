-- The counts of a build, and what the end of a build leaves of them and of the work slice.
use Rattle.std.specs.Prelude.{◌≡◌, List, [], ◌∷◌, ◌++◌, ◌≢◌, ℕ, ◌≤◌, ◌<◌, eqb, length, replicate}
use Rattle.base.specs.common.Pick.{pick}
use Rattle.base.specs.numbers.Numbers.{EMPTY, refused_circumcenter, refused_one_crossing}
use Rattle.definition.specs.declared.Reused.{Reused}
use Rattle.cell_memory.specs.layout.Cleared.{padded}

abbrev pub counts_of : ℕ → List ℕ → ℕ → Reused → List ℕ
counts_of vertices owners lost a = vertices ∷ owners ++ lost ∷ a.extensions ∷ a.firsts ∷ a.seconds ∷ []

-- each fits into a count
abbrev pub ReusedFit : Reused → Type 0
ReusedFit a = (a.extensions < 4294967296) × (a.firsts < 4294967296) × (a.seconds < 4294967296)

-- what the number of a build's fault can be: none, or 11 to 14
abbrev pub FaultNumber : ℕ → Type 0
FaultNumber n = n ≢ 0 → (refused_circumcenter ≤ n) × (n ≤ refused_one_crossing)

-- the work slice w and the counts c after a build with the number n
pub record EndedBuild (n : ℕ) (made w c w₁ c₁ : List ℕ) : Type 0 where
  pub work : w₁ ≡ pick (eqb n 0) (λ _. w) (λ _. replicate (length w) EMPTY)
  pub counts : c₁ ≡ pick (eqb n 0) (λ _. padded (length c) EMPTY made) (λ _. replicate (length c) EMPTY)
