-- Cells as parts of one index list, cut by offsets; the entries that two cells share.
use Rattle.std.specs.Prelude.{◌≡◌, Bool, List, [], ◌∷◌, ℕ, ◌+◌, ◌-◌, ◌≤◌, ◌<◌, leb, ltb, length, get_or, take, drop}
use Rattle.base.specs.common.Pick.{pick}
use Rattle.base.specs.common.Count.{occ}

-- offsets start at 0, do not fall, and do not pass the list's end
pub record Cells (off : List ℕ) (room : ℕ) : Type 0 where
  pub some : 0 < length off
  pub start : get_or off 0 0 ≡ 0
  pub rising : (i : ℕ) → i + 1 < length off → get_or off i 0 ≤ get_or off (i + 1) 0
  pub within : (i : ℕ) → i < length off → get_or off i 0 ≤ room

-- the cell of site s: the entries between its two offsets
unfoldable pub cell_of : List ℕ → List ℕ → ℕ → List ℕ
cell_of off ix s = take (get_or off (s + 1) 0 - get_or off s 0) (drop (get_or off s 0) ix)

-- whether x stands in the list
abbrev pub holds_of : List ℕ → ℕ → Bool
holds_of b x = ltb 0 (occ x b)

-- how many entries of a stand in b, repeats counted
unfoldable pub shared_of : List ℕ → List ℕ → ℕ
shared_of [] b = 0
shared_of (x ∷ a) b = pick (holds_of b x) (λ _. 1) (λ _. 0) + shared_of a b

-- the cells of sites s and t share an edge: two entries
unfoldable pub share_edge_of : List ℕ → List ℕ → ℕ → ℕ → Bool
share_edge_of off ix s t = leb 2 (shared_of (cell_of off ix s) (cell_of off ix t))
