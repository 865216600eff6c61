-- What the scans ask for: coordinates within the profile, triangles that name sites, and right pairs.
use Rattle.std.specs.Prelude.{◌≡◌, List, ◌≢◌, ℕ, ◌/◌, ◌%◌, ◌<◌, ℤ, length, get_or}
use Rattle.std.proofs.Common.{⊎_elim, arith}
use Rattle.base.specs.numbers.Numbers.{EMPTY}
use Rattle.mesh.specs.Mesh.{pair_of, AllPaired}
use Rattle.grid.specs.Plane.{WithinAt, SiteAt}

pub record OnSites (grid : List ℤ) (tri : List ℕ) : Type 0 where
  pub within : (s : ℕ) → s < length grid / 2 → WithinAt grid s
  pub threes : length tri % 3 ≡ 0
  pub small : length tri < EMPTY
  pub sites : (k : ℕ) → k < length tri → get_or tri k 0 < length grid / 2

pub record Scannable (grid : List ℤ) (tri he : List ℕ) : Type 0 where
  pub named : OnSites grid tri
  pub same : length he ≡ length tri
  pub pairs : AllPaired tri he

-- the sites that triangles name are there, and keep rule 22
pub site_at_lem : {grid : List ℤ} {tri : List ℕ} → OnSites grid tri → (k s : ℕ) → k < length tri → s ≡ get_or tri k 0 → SiteAt grid s
site_at_lem {grid} n k s l q =
    let h : s < length grid / 2 = rw q (n.sites k l) in
    record { there = omega arith; within = n.within s h }

-- the pair of a paired half-edge is in range
pub pair_in : {grid : List ℤ} {tri he : List ℕ} → Scannable grid tri he → (e : ℕ) → e < length tri → pair_of he e ≢ EMPTY → pair_of he e < length tri
pair_in r e l n = ⊎_elim (λ h. absurd (n h)) (λ h. omega (arith, h.inside, r.same)) (r.pairs e l)
