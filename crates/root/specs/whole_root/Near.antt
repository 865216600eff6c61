-- The whole number nearest to a root, said without the root: both sides squared. Definitions only.
use Rattle.std.specs.Prelude.{ℕ, ◌+◌, ◌-◌, ◌*◌, ◌<◌}

abbrev pub sq : ℕ → ℕ
sq n = n * n

-- q is the whole number nearest to √n, for q above 0: q - 1/2 < √n < q + 1/2, with each side doubled and squared
pub record NearWhole (n q : ℕ) : Type 0 where
  pub low : sq (2 * q - 1) < 4 * n
  pub high : 4 * n < sq (2 * q + 1)
