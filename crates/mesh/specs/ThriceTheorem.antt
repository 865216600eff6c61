-- Theorem: on an accepted mesh the rings of all sites, each read from the leftmost half-edge of its site, hold every triangle three times in all: once in the ring
-- of each of its three sites, and in no other.
use Rattle.std.specs.Prelude.{◌≡◌, refl, List, ℕ, ◌+◌, ◌*◌, ◌/◌, ◌<◌, length, get_or}
use Rattle.std.proofs.Common.{◌∙◌, ⊎_elim, arith}
use Rattle.base.specs.common.Count.{occ}
use Rattle.base.specs.common.laws.Count.{same_cases, sum_same, occ_sum}
use Rattle.mesh.specs.Mesh.{Sound}
use Rattle.mesh.specs.Accepted.{Mesh, Accepted, site_count}
use Rattle.mesh.specs.Rings.{site_ring, sites_of, Thrice}
use Rattle.mesh.specs.laws.Rings.{ring_holds, distinct}
use Rattle.mesh.specs.laws.Facts.{topology}

-- a triangle's sites are sites
below : {n : ℕ} (tri : List ℕ) (t : ℕ) → Sound n (get_or tri (3 * t) 0) (get_or tri (3 * t + 1) 0) (get_or tri (3 * t + 2) 0) → (v : ℕ) → 0 < occ v (sites_of tri t) → v < n
below tri t s v h =
    ⊎_elim
    (λ a. rw a.0 s.a_site)
    (λ a. ⊎_elim
    (λ b. rw b.0 s.b_site)
    (λ b. ⊎_elim (λ c. rw c.0 s.c_site) (λ c. absurd (omega (arith, a.1, b.1, c.1))) (same_cases v (get_or tri (3 * t + 2) 0)))
    (same_cases v (get_or tri (3 * t + 1) 0)))
    (same_cases v (get_or tri (3 * t) 0))

-- told of any rings that are these
pub thrice_as : {m : Mesh} → Accepted m → (ring : ℕ → List ℕ) → ((s : ℕ) → s < site_count m.sites → ring s ≡ site_ring m s) → (t : ℕ) → t < length m.triangles / 3
    → Thrice m.triangles ring (site_count m.sites) t
thrice_as {m} a ring is t l =
    let ok = topology a in
    let n = site_count m.sites in
    let s = ok.sound t l in
    let holds : (v : ℕ) → v < n → occ t (ring v) ≡ occ v (sites_of m.triangles t) =
    λ v h. rw (is v h) (ring_holds ok v h t (omega (arith, ok.same))) in
    record {
      each = holds;
      once = λ v h. distinct _ _ _ v s.ab s.bc s.ca h;
      three = sum_same (λ v. occ t (ring v)) (λ v. occ v (sites_of m.triangles t)) n holds ∙ occ_sum n (sites_of m.triangles t) (below m.triangles t s);
    }

pub thrice : {m : Mesh} → Accepted m → (t : ℕ) → t < length m.triangles / 3 → Thrice m.triangles (site_ring m) (site_count m.sites) t
thrice {m} a = thrice_as a (site_ring m) (λ s h. refl)
