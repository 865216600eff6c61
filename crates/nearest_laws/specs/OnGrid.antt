-- Theorem: what the check on the grid asks of turns and circles is what the theorem on nearest sites asks, of the coordinates moved up.
use Rattle.std.specs.Prelude.{◌≡◌, refl, List, ◌⊎◌, ◌≢◌, ℕ, ◌+◌, ◌*◌, ◌/◌, ◌%◌, ◌<◌, ℤ, length, get_or}
use Rattle.std.proofs.Common.{◌∙◌, inl, inr, ⊎_elim, arith, ltb-true, ltb-false}
use Rattle.base.specs.common.laws.Decide.{lt_or_ge}
use Rattle.base.specs.numbers.Numbers.{EMPTY}
use Rattle.mesh.specs.Mesh.{next_of, start_of, end_of, pair_of}
use Rattle.mesh.specs.laws.Next.{next_sum, next_lt}
use Rattle.grid.specs.declared.Raised.{Raised}
use Rattle.grid.specs.Plane.{place_at}
use Rattle.grid.specs.Raised.{raised_of, area_of, lift_of}
use Rattle.grid.specs.laws.Same.{Inside, turns_is, inside_is}
use Rattle.grid.specs.scan.Judged.{apex_of, TurnAt, CircleAt}
use Rattle.grid.specs.scan.laws.Scannable.{Scannable, site_at_lem, pair_in}
use Rattle.nearest_laws.specs.laws.Signs.{Pos, NonPos}

-- the corners of a half-edge's triangle t, from the half-edge on
corners : (e : ℕ) → let t = e / 3 in ((e ≡ 3 * t) × (next_of e ≡ 3 * t + 1) × (next_of (next_of e) ≡ 3 * t + 2))
    ⊎ (((e ≡ 3 * t + 1) × (next_of e ≡ 3 * t + 2) × (next_of (next_of e) ≡ 3 * t)) ⊎ ((e ≡ 3 * t + 2) × (next_of e ≡ 3 * t) × (next_of (next_of e) ≡ 3 * t + 1)))
corners e =
    let n = next_sum e in
    let m = next_sum (next_of e) in
    ⊎_elim
    (λ h. inl (omega arith, omega (arith, n), omega (arith, n, m)))
    (λ h. ⊎_elim
    (λ k. inr (inl (omega arith, omega (arith, n), omega (arith, n, m))))
    (λ k. inr (inr (omega arith, omega (arith, n), omega (arith, n, m))))
    (lt_or_ge (e % 3) 2))
    (lt_or_ge (e % 3) 1)

once : (a b c : Raised) → Pos (area_of a b c) → Pos (area_of b c a)
once a b c h = omega arith

module _ (grid : List ℤ) (tri he : List ℕ) (good : Scannable grid tri he) where
  -- site v moved up
  abbrev raised_at : ℕ → Raised
  raised_at v = raised_of (place_at grid v)

  inside : (k : ℕ) → k < length tri → Inside (place_at grid (get_or tri k 0))
  inside k l = let s = site_at_lem good.named k (get_or tri k 0) l refl in record { x = s.within.0; y = s.within.1 }

  -- a triangle's corners in their own order
  own : (t : ℕ) → t < length tri / 3 → TurnAt grid tri t → Pos (area_of (raised_at (get_or tri (3 * t) 0)) (raised_at (get_or tri (3 * t + 1) 0)) (raised_at (get_or tri (3 * t + 2) 0)))
  own t l h =
      ltb-true _ _ (turns_is (place_at grid (get_or tri (3 * t) 0)) (place_at grid (get_or tri (3 * t + 1) 0)) (place_at grid (get_or tri (3 * t + 2) 0))
      (inside (3 * t) (omega arith)) (inside (3 * t + 1) (omega arith)) (inside (3 * t + 2) (omega arith)) ∙ h)

  pub turns_up : ((t : ℕ) → t < length tri / 3 → TurnAt grid tri t) → (e : ℕ) → e < length he
      → Pos (area_of (raised_at (start_of tri e)) (raised_at (end_of tri e)) (raised_at (apex_of tri e)))
  turns_up all e l =
      let t = e / 3 in
      let h = own t (omega (arith, good.same)) (all t (omega (arith, good.same))) in
      let A = raised_at (get_or tri (3 * t) 0) in
      let B = raised_at (get_or tri (3 * t + 1) 0) in
      let C = raised_at (get_or tri (3 * t + 2) 0) in
      ⊎_elim
      (λ q. rw (ap_at q.0, ap_at q.1, ap_at q.2) h)
      (λ r. ⊎_elim
      (λ q. rw (ap_at q.0, ap_at q.1, ap_at q.2) (once A B C h))
      (λ q. rw (ap_at q.0, ap_at q.1, ap_at q.2) (once B C A (once A B C h)))
      r)
      (corners e)
    where
      ap_at : {i j : ℕ} → i ≡ j → get_or tri i 0 ≡ get_or tri j 0
      ap_at q = rw q

  pub circles_up : ((e : ℕ) → e < length tri → CircleAt grid tri he e) → (e : ℕ) → e < length he → pair_of he e ≢ EMPTY
      → NonPos (lift_of (raised_at (start_of tri e)) (raised_at (end_of tri e)) (raised_at (apex_of tri e)) (raised_at (apex_of tri (pair_of he e))))
  circles_up all e l n =
      let k : e < length tri = omega (arith, good.same) in
      let threes = good.named.threes in
      let next = next_lt threes k in
      let far = next_lt threes (next_lt threes (pair_in good e k n)) in
      ltb-false _ _ (inside_is (place_at grid (start_of tri e)) (place_at grid (end_of tri e)) (place_at grid (apex_of tri e)) (place_at grid (apex_of tri (pair_of he e)))
      (inside e k) (inside (next_of e) next) (inside (next_of (next_of e)) (next_lt threes next)) (inside (next_of (next_of (pair_of he e))) far) ∙ all e k n)
