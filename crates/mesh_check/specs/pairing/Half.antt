-- Half of rule 8: a half-edge is unpaired, or its pair names it back and starts where it ends. Of all half-edges it is the whole rule.
use Rattle.std.specs.Prelude.{◌≡◌, ◌⊎◌, List, ℕ, ◌+◌, ◌*◌, ◌<◌, length}
use Rattle.base.specs.numbers.Numbers.{EMPTY}
use Rattle.mesh.specs.Mesh.{start_of, end_of, pair_of}

pub record HalfMates (tri he : List ℕ) (e p : ℕ) : Type 0 where
  pub inside : p < length he
  pub back : pair_of he p ≡ e
  pub from : start_of tri p ≡ end_of tri e

abbrev pub HalfPairedAt : List ℕ → List ℕ → ℕ → Type 0
HalfPairedAt tri he e = (pair_of he e ≡ EMPTY) ⊎ HalfMates tri he e (pair_of he e)

-- the three half-edges of triangle t
abbrev pub HalvesPairedAt : List ℕ → List ℕ → ℕ → Type 0
HalvesPairedAt tri he t = HalfPairedAt tri he (3 * t) × HalfPairedAt tri he (3 * t + 1) × HalfPairedAt tri he (3 * t + 2)
