-- Cells in one index list. While they are built each site has a region of it, which the cell fills from its start; at the end they are moved together.
use Rattle.std.specs.Prelude.{◌≡◌, List, [], ◌∷◌, ◌++◌, ◌≢◌, ℕ, suc, ◌+◌, ◌≤◌, ◌<◌, length, get_or, take, drop}
use Rattle.base.specs.numbers.Numbers.{EMPTY}

-- the cells one after the other
unfoldable pub joined : List (List ℕ) → List ℕ
joined [] = []
joined (c ∷ cs) = c ++ joined cs

-- where each of them starts, the first at n, and where the last one ends
unfoldable pub offsets_from : ℕ → List (List ℕ) → List ℕ
offsets_from n [] = n ∷ []
offsets_from n (c ∷ cs) = n ∷ offsets_from (n + length c) cs

-- the region of ix from a to b begins with the cell c; EMPTY, which is no entry, fills the rest of it
pub record Region (ix : List ℕ) (a b : ℕ) (c : List ℕ) : Type 0 where
  pub fits : a + length c ≤ b
  pub entries : (i : ℕ) → i < length c → get_or ix (a + i) 0 ≡ get_or c i 0
  pub real : (i : ℕ) → i < length c → get_or c i 0 ≢ EMPTY
  pub after : (k : ℕ) → a + length c ≤ k → k < b → get_or ix k 0 ≡ EMPTY

-- the cells stand in the regions that start at the first entries of `starts`; one entry more is the end of all
pub record Regions (ix starts : List ℕ) (cells : List (List ℕ)) : Type 0 where
  pub one_more : suc (length cells) ≤ length starts
  pub within : get_or starts (length cells) 0 ≤ length ix
  pub each : (s : ℕ) → s < length cells → Region ix (get_or starts s 0) (get_or starts (suc s) 0) (get_or cells s [])

-- from..r holds entries alone, and at r the region from..to has EMPTY or its end
pub record Filled (ix : List ℕ) (from to r : ℕ) : Type 0 where
  pub low : from ≤ r
  pub high : r ≤ to
  pub real : (i : ℕ) → from ≤ i → i < r → get_or ix i 0 ≢ EMPTY
  pub ended : r < to → get_or ix r 0 ≡ EMPTY

-- the first n regions do not overlap, and end within the list
pub record StartsRise (starts : List ℕ) (n len : ℕ) : Type 0 where
  pub long : n < length starts
  pub rise : (s : ℕ) → s < n → get_or starts s 0 ≤ get_or starts (s + 1) 0
  pub within : get_or starts n 0 ≤ len

-- the cells moved together: w entries in all, then their offsets over the starts
pub record Compacted (ix off : List ℕ) (cells : List (List ℕ)) (ix₁ off₁ : List ℕ) (w : ℕ) : Type 0 where
  pub counted : w ≡ length (joined cells)
  pub moved : take w ix₁ ≡ joined cells
  pub offsets : off₁ ≡ offsets_from 0 cells ++ drop (suc (length cells)) off
