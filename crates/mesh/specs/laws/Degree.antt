-- How many half-edges end at a site: as many as the triangle list names it, since a triangle's three half-edges end at its three sites.
-- So a walk round a site has no more entries than that.
use Rattle.std.specs.Prelude.{◌≡◌, refl, List, ℕ, zero, suc, ◌+◌, ◌*◌, ◌/◌, ◌%◌, ◌≤◌, ◌<◌, length, get_or, take}
use Rattle.std.proofs.Common.{sym, ap, ◌∙◌, ⊎_elim, add-one, arith, take-suc}
use Rattle.std.proofs.Math.Seq.{take-length}
use Rattle.base.specs.common.laws.Decide.{lt_or_ge}
use Rattle.base.specs.common.Count.{same, occ, sum_to}
use Rattle.base.specs.common.laws.Count.{same_cases, occ_append, weighed_le}
use Rattle.mesh.specs.Mesh.{next_of, end_of, whole_of, Paired}
use Rattle.mesh.specs.laws.Next.{next_sum}
use Rattle.mesh.specs.laws.Walks.{walk_ends, whole_once}

-- one entry more
pub occ_next : (s i : ℕ) (l : List ℕ) → i < length l → occ s (take (i + 1) l) ≡ occ s (take i l) + same s (get_or l i 0)
occ_next s i l h = rw (add-one, take-suc l i 0 h, occ_append) (omega arith)

occ_places : (s : ℕ) (l : List ℕ) (n : ℕ) → n ≤ length l → sum_to (λ k. same s (get_or l k 0)) n ≡ occ s (take n l)
occ_places s l zero h = refl
occ_places s l (suc n) h = omega (arith, occ_places s l n (omega arith), rw add-one at (occ_next s n l (omega arith)))

-- triangle by triangle
ends_turned : (s : ℕ) (tri : List ℕ) (t : ℕ) → sum_to (λ k. same s (end_of tri k)) (3 * t) ≡ sum_to (λ k. same s (get_or tri k 0)) (3 * t)
ends_turned s tri zero = refl
ends_turned s tri (suc t) =
    let q : 3 * suc t ≡ suc (suc (suc (3 * t))) = omega arith in
    let a : next_of (3 * t) ≡ suc (3 * t) = omega (arith, next_sum (3 * t)) in
    let b : next_of (suc (3 * t)) ≡ suc (suc (3 * t)) = omega (arith, next_sum (suc (3 * t))) in
    let c : next_of (suc (suc (3 * t))) ≡ 3 * t = omega (arith, next_sum (suc (suc (3 * t)))) in
    rw (q, a, b, c) (omega (arith, ends_turned s tri t))

-- the half-edges that end at s, counted
pub ends_counted : (tri : List ℕ) → length tri % 3 ≡ 0 → (s : ℕ) → sum_to (λ k. same s (end_of tri k)) (length tri) ≡ occ s tri
ends_counted tri threes s =
    let q : length tri ≡ 3 * (length tri / 3) = omega arith in
    ap (sum_to (λ k. same s (end_of tri k))) q
    ∙ ends_turned s tri (length tri / 3)
    ∙ ap (sum_to (λ k. same s (get_or tri k 0))) (sym q)
    ∙ occ_places s tri (length tri) (omega arith)
    ∙ ap (occ s) (take-length tri)

module _ (tri he : List ℕ) (ok : Paired tri he) (long : length he ≡ length tri) (e : ℕ) where
  listed : (v : ℕ) → occ v (whole_of he e) ≤ same (end_of tri e) (end_of tri v)
  listed v =
      ⊎_elim
      (λ h. ⊎_elim
      (λ w. omega (arith, whole_once tri he ok e v))
      (λ w. absurd (w.0 (sym (walk_ends tri he ok e (length he) e v h).1)))
      (same_cases (end_of tri e) (end_of tri v)))
      (λ h. omega arith)
      (lt_or_ge 0 (occ v (whole_of he e)))

  -- the walk from e has at most as many entries as the triangle list names the site where e ends
  pub walk_degree : length (whole_of he e) ≤ occ (end_of tri e) tri
  walk_degree =
      rw (← ends_counted tri (rw long at ok.threes) (end_of tri e))
      (weighed_le (λ k. same (end_of tri e) (end_of tri k)) (length tri) (whole_of he e) (λ v h. rw long at (walk_ends tri he ok e (length he) e v h).0) listed)
