-- How much of the index list each site gets: 3 entries for each of its half-edges, 6 more for each place on the hull, 1 for each corner that it owns.
-- A site is named by the triangle list once for each half-edge that ends there.
use Rattle.std.specs.Prelude.{◌≡◌, List, ℕ, suc, ◌+◌, ◌*◌, ◌^◌, ◌≤◌, ◌<◌, length, get_or}
use Rattle.base.specs.common.Count.{occ, sum_to}

unfoldable pub region_room : List ℕ → List ℕ → List ℕ → ℕ → ℕ
region_room tri hull owners s = 3 * occ s tri + 6 * occ s hull + occ s owners

-- where the region of site s starts, and where that of the last of s sites ends
unfoldable pub region_start : List ℕ → List ℕ → List ℕ → ℕ → ℕ
region_start tri hull owners s = sum_to (region_room tri hull owners) s

-- each entry of l has a place after it in old, and no sum can pass 32 bits
pub record Tallies (l : List ℕ) (by : ℕ) (old : List ℕ) : Type 0 where
  pub places : (k : ℕ) → k < length l → suc (get_or l k 0) < length old
  pub small : (s : ℕ) → s < length old → get_or old s 0 + by * length l < 2 ^ 32

-- `by` for each time that s stands in l, added at place s + 1
pub record Tallied (l : List ℕ) (by : ℕ) (old new : List ℕ) : Type 0 where
  pub long : length new ≡ length old
  pub first : get_or new 0 0 ≡ get_or old 0 0
  pub each : (s : ℕ) → suc s < length old → get_or new (suc s) 0 ≡ get_or old (suc s) 0 + by * occ s l

-- place 0 holds 0, and the sums up to place n fit 32 bits
pub record Sums (n : ℕ) (old : List ℕ) : Type 0 where
  pub first : get_or old 0 0 ≡ 0
  pub places : n < length old
  pub small : sum_to (λ k. get_or old (suc k) 0) n < 2 ^ 32

-- at each place up to n the sum of the places from 1 up to it
pub record Summed (n : ℕ) (old new : List ℕ) : Type 0 where
  pub long : length new ≡ length old
  pub each : (s : ℕ) → s ≤ n → get_or new s 0 ≡ sum_to (λ k. get_or old (suc k) 0) s

-- what the counting of all rooms needs: every list names sites alone, and the rooms together fit 32 bits
pub record Roomy (tri hull owners : List ℕ) (n : ℕ) (off : List ℕ) : Type 0 where
  pub places : n < length off
  pub tri_sites : (k : ℕ) → k < length tri → get_or tri k 0 < n
  pub hull_sites : (k : ℕ) → k < length hull → get_or hull k 0 < n
  pub owner_sites : (k : ℕ) → k < length owners → get_or owners k 0 < n
  pub small : 3 * length tri + 6 * length hull + length owners < 2 ^ 32

-- the starts stand at the first places, the end of all after them
abbrev pub Started : List ℕ → List ℕ → List ℕ → ℕ → List ℕ → Type 0
Started tri hull owners n off = (s : ℕ) → s ≤ n → get_or off s 0 ≡ region_start tri hull owners s
