-- The lent slices of mending, and a slice that a list fills from its beginning.
use Rattle.std.specs.Prelude.{List, ◌++◌, ℕ, ◌-◌, length, replicate}
use Rattle.base.specs.numbers.Numbers.{EMPTY}

-- the lent slices
pub record Lent : Type 0 where
  pub work : List ℕ
  pub pairs : List ℕ
  pub mended : List ℕ
  pub changes : List ℕ

abbrev pub lent : List ℕ → List ℕ → List ℕ → List ℕ → Lent
lent w p m c = record { work = w; pairs = p; mended = m; changes = c }

-- a list in a slice of w entries, then EMPTY
abbrev pub filled : ℕ → List ℕ → List ℕ
filled w l = l ++ replicate (w - length l) EMPTY
