-- Cells one after the other in an index list, as offsets give them: what a text with a line for each cell goes by. Definitions only.
use Rattle.std.specs.Prelude.{List, ℕ, suc, ◌-◌, ◌^◌, ◌≤◌, ◌<◌, length, get_or, take, drop}

-- cell i is the part of the index list from offset i to the next
abbrev pub listed_cell : List ℕ → List ℕ → ℕ → List ℕ
listed_cell offsets cells i = take (get_or offsets (suc i) 0 - get_or offsets i 0) (drop (get_or offsets i 0) cells)

-- offsets that a listing can go by: one more than cells, not falling, within the index list
pub record Layout (offsets cells : List ℕ) (n : ℕ) : Type 0 where
  pub long : n < length offsets
  pub few : n < 2 ^ 32
  pub rise : (i : ℕ) → i < n → get_or offsets i 0 ≤ get_or offsets (suc i) 0
  pub within : (i : ℕ) → i < n → get_or offsets (suc i) 0 ≤ length cells
