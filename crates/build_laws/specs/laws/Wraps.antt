-- Wrapping stops by its own rule: each corner that is taken is one fewer of the site's, so with fuel for these more changes nothing.
use Rattle.std.specs.Prelude.{◌≡◌, refl, Bool, true, false, List, [], ◌≢◌, length, get_or, set}
use Rattle.std.proofs.Common.{ap, ◌∙◌, arith, length-set}
use Prim.Native.Nat.{ℕ, zero, suc, ◌+◌, ◌%◌, ◌≤◌, ◌<◌}
use Rattle.base.specs.common.Pick.{pick}
use Rattle.base.specs.common.Count.{same, occ}
use Rattle.base.specs.common.laws.Count.{occ_length}
use Rattle.base.specs.numbers.Numbers.{EMPTY}
use Rattle.mesh.specs.laws.Occurs.{occ_there}
use Rattle.definition.specs.Cell.{wrapped, entry, goes, wraps}
use Rattle.definition.specs.Short.{ins, before}
use Rattle.definition.proofs.laws.Puts.{occ_set, same_self, same_other, goes_own}

module _ (nc site : ℕ) (real : site ≢ EMPTY) where
  stops : (stop c : ℕ) (os : List ℕ) → c < length os → occ site os ≡ 0 → goes site stop c os ≡ false
  stops stop c os h z = by (goes site stop c os) refl
    where
      by : (t : Bool) → goes site stop c os ≡ t → t ≡ false
      by true e = absurd (omega (arith, rw (goes_own site stop c os e) at (occ_there os c h)))
      by false e = refl

  further : (k stop c : ℕ) (os : List ℕ) (t : Bool)
      → (t ≡ true → wraps (suc k) nc site stop ((c + 1) % 4) (set os c EMPTY) ≡ wraps k nc site stop ((c + 1) % 4) (set os c EMPTY))
      → pick t (λ _. before (entry wrapped (nc + c)) (wraps (suc k) nc site stop ((c + 1) % 4) (set os c EMPTY))) (λ _. ins os [])
      ≡ pick t (λ _. before (entry wrapped (nc + c)) (wraps k nc site stop ((c + 1) % 4) (set os c EMPTY))) (λ _. ins os [])
  further k stop c os true h = ap (before (entry wrapped (nc + c))) (h refl)
  further k stop c os false h = refl

  one_fewer : (stop c : ℕ) (os : List ℕ) → c < length os → goes site stop c os ≡ true → occ site (set os c EMPTY) + 1 ≡ occ site os
  one_fewer stop c os h e =
      let f : same site (get_or os c 0) ≡ 1 = rw (goes_own site stop c os e) (same_self site) in
      omega (arith, occ_set site os c EMPTY h, same_other site EMPTY real)

  wraps_more : (k stop c : ℕ) (os : List ℕ) → length os ≡ 4 → c < 4 → occ site os ≤ k → wraps (suc k) nc site stop c os ≡ wraps k nc site stop c os
  unfolding wraps
  wraps_more zero stop c os four h few = rw (stops stop c os (omega arith) (omega arith))
  wraps_more (suc k) stop c os four h few =
      further k stop c os (goes site stop c os)
      (λ e. wraps_more k stop ((c + 1) % 4) (set os c EMPTY) (length-set os c EMPTY ∙ four) (omega arith) (omega (arith, one_fewer stop c os (omega arith) e)))

  pub wraps_enough : (j stop c : ℕ) (os : List ℕ) → length os ≡ 4 → c < 4 → wraps (j + 4) nc site stop c os ≡ wraps 4 nc site stop c os
  wraps_enough zero stop c os four h = refl
  wraps_enough (suc j) stop c os four h =
      let q : suc j + 4 ≡ suc (j + 4) = omega arith in
      rw q (wraps_more (j + 4) stop c os four h (omega (arith, occ_length site os)) ∙ wraps_enough j stop c os four h)
