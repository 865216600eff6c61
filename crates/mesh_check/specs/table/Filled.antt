-- How far the leftmost table is filled: first with the lowest half-edges from n on, then with the unpaired ones below n.
use Rattle.std.specs.Prelude.{◌≡◌, ◌≢◌, List, ℕ, ◌≤◌, ◌<◌, length, get_or}
use Rattle.base.specs.numbers.Numbers.{EMPTY}
use Rattle.mesh.specs.Mesh.{end_of, pair_of}

-- the entry m of site s is the lowest half-edge from n on that ends there, EMPTY if there is none
pub record LowestFrom (tri : List ℕ) (n s m : ℕ) : Type 0 where
  pub none : m ≡ EMPTY → (e : ℕ) → n ≤ e → e < length tri → end_of tri e ≢ s
  pub some : m ≢ EMPTY → (m < length tri) × (end_of tri m ≡ s)
  pub lowest : (e : ℕ) → n ≤ e → e < length tri → end_of tri e ≡ s → m ≤ e

abbrev pub LowestsFrom : List ℕ → ℕ → List ℕ → Type 0
LowestsFrom tri n work = (s : ℕ) → s < length work → LowestFrom tri n s (get_or work s 0)

-- it is the last unpaired one below n that ends there if there is one, else the lowest of all
pub record LeftTo (tri he : List ℕ) (n s m : ℕ) : Type 0 where
  pub none : m ≡ EMPTY → (e : ℕ) → e < length tri → end_of tri e ≢ s
  pub some : m ≢ EMPTY → (m < length tri) × (end_of tri m ≡ s)
  pub last : (e : ℕ) → e < n → end_of tri e ≡ s → pair_of he e ≡ EMPTY → (e ≤ m) × (pair_of he m ≡ EMPTY)
  pub lowest : pair_of he m ≢ EMPTY → (e : ℕ) → e < length tri → end_of tri e ≡ s → m ≤ e

abbrev pub LeftsTo : List ℕ → List ℕ → ℕ → List ℕ → Type 0
LeftsTo tri he n work = (s : ℕ) → s < length work → LeftTo tri he n s (get_or work s 0)
