-- The leftmost table with the number of half-edges of each site: an entry is 524,288 times what is left of 8,191 when they are taken off it, and the half-edge.
-- One of a site without half-edges is EMPTY, 524,288 times 8,191 and 524,287.
use Rattle.std.specs.Prelude.{◌≡◌, ◌≢◌, List, ℕ, ◌+◌, ◌-◌, ◌/◌, ◌%◌, ◌≤◌, ◌<◌, ltb, eqb, length, get_or}
use Rattle.base.specs.common.Pick.{pick}
use Rattle.base.specs.numbers.Numbers.{EMPTY}
use Rattle.mesh.specs.Mesh.{start_of, end_of, pair_of, table_to, whole_of}
use Rattle.mesh_check.specs.fan.Counts.{ends_to}

-- no half-edge ends where it starts
abbrev pub EndsApart : List ℕ → Type 0
EndsApart tri = (e : ℕ) → e < length tri → start_of tri e ≢ end_of tri e

-- the entry m of site s holds the number of half-edges from n on that end there, and the lowest of them
pub record Lowest (tri : List ℕ) (n s m : ℕ) : Type 0 where
  pub within : m / 524288 ≤ 8191
  pub counted : ends_to tri s n + (8191 - m / 524288) ≡ ends_to tri s (length tri)
  pub none : 8191 ≤ m / 524288 → (m ≡ EMPTY) × ((e : ℕ) → n ≤ e → e < length tri → end_of tri e ≢ s)
  pub some : m / 524288 < 8191 → (m % 524288 < length tri) × (end_of tri (m % 524288) ≡ s)
  pub lowest : (e : ℕ) → n ≤ e → e < length tri → end_of tri e ≡ s → m % 524288 ≤ e

abbrev pub Lowests : List ℕ → ℕ → List ℕ → Type 0
Lowests tri n work = (s : ℕ) → s < length work → Lowest tri n s (get_or work s 0)

-- it holds the number of all, and the last unpaired one below n if there is one, else the lowest
pub record Lefts (tri he : List ℕ) (n s m : ℕ) : Type 0 where
  pub within : m / 524288 ≤ 8191
  pub counted : 8191 - m / 524288 ≡ ends_to tri s (length tri)
  pub none : 8191 ≤ m / 524288 → (m ≡ EMPTY) × ((e : ℕ) → e < length tri → end_of tri e ≢ s)
  pub some : m / 524288 < 8191 → (m % 524288 < length tri) × (end_of tri (m % 524288) ≡ s)
  pub last : (e : ℕ) → e < n → end_of tri e ≡ s → pair_of he e ≡ EMPTY → (e ≤ m % 524288) × (pair_of he (m % 524288) ≡ EMPTY)
  pub lowest : pair_of he (m % 524288) ≢ EMPTY → (e : ℕ) → e < length tri → end_of tri e ≡ s → m % 524288 ≤ e

abbrev pub Leftmosts : List ℕ → List ℕ → ℕ → List ℕ → Type 0
Leftmosts tri he n work = (s : ℕ) → s < length work → Lefts tri he n s (get_or work s 0)

-- the half-edge of an entry, or EMPTY
unfoldable pub unpacked : ℕ → ℕ
unpacked m = pick (ltb (m / 524288) 8191) (λ _. m % 524288) (λ _. m)

-- how many entries a walk from t may lack: one where t is paired
unfoldable pub spare : List ℕ → ℕ → ℕ
spare he t = pick (eqb (pair_of he t) EMPTY) (λ _. 0) (λ _. 1)

-- the entries below n are unpacked, and the walk from each has as many entries as it says at least, but for what it may lack; the others are the old ones
pub record Unpacks (he old new : List ℕ) (n : ℕ) : Type 0 where
  pub long : length new ≡ length old
  pub done : (s : ℕ) → s < n → (get_or new s 0 ≡ unpacked (get_or old s 0)) × (8191 - get_or old s 0 / 524288 ≤ length (whole_of he (get_or new s 0)) + spare he (get_or new s 0))
  pub rest : (s : ℕ) → n ≤ s → get_or new s 0 ≡ get_or old s 0

-- the leftmost table of w entries, the walk from each as long at least as half-edges end at the site
pub record LongWalks (tri he : List ℕ) (w : ℕ) (new : List ℕ) : Type 0 where
  pub table : new ≡ table_to tri he w (length tri)
  pub reached : (s : ℕ) → s < w → ends_to tri s (length tri) ≤ length (whole_of he (get_or new s 0))
