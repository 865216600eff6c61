-- A triangle in a ring counts its three half-edges in the walk.
use Rattle.std.specs.Prelude.{◌≡◌, refl, List, [], ◌∷◌, ◌≢◌, ℕ, ◌+◌, ◌*◌, ◌/◌, ◌%◌, ◌<◌, length, get_or}
use Rattle.std.proofs.Common.{sym, ap, ◌∙◌, ⊎_elim, arith}
use Rattle.base.specs.common.Count.{same, occ}
use Rattle.base.specs.common.laws.Count.{same_cases}
use Rattle.base.specs.common.laws.Decide.{lt_or_ge, eq_or_ne}
use Rattle.mesh.specs.Mesh.{next_of, end_of, leftmost_of, whole_of}
use Rattle.mesh.specs.Accepted.{Topology}
use Rattle.mesh.specs.Rings.{walk_triangles, sites_of}
use Rattle.mesh.specs.laws.Next.{next_sum}
use Rattle.mesh.specs.laws.Facts.{walk_each, walk_only}

-- one, if they are the same, and none if they differ
told : (v x : ℕ) → (v ≡ x → same v x ≡ 1) × (v ≢ x → same v x ≡ 0)
told v x = ⊎_elim (λ c. (λ q. c.1, λ q. absurd (q c.0))) (λ c. (λ q. absurd (c.0 q), λ q. c.1)) (same_cases v x)

-- a half-edge is one of its triangle's three
same_third : (t e : ℕ) → same t (e / 3) ≡ same (3 * t) e + same (3 * t + 1) e + same (3 * t + 2) e
same_third t e =
    ⊎_elim
    (λ q. ⊎_elim
    (λ r. omega (arith, (told t (e / 3)).0 q, (told (3 * t) e).0 (omega arith), (told (3 * t + 1) e).1 (λ w. omega arith), (told (3 * t + 2) e).1 (λ w. omega arith)))
    (λ r. ⊎_elim
    (λ u. omega (arith, (told t (e / 3)).0 q, (told (3 * t) e).1 (λ w. omega arith), (told (3 * t + 1) e).0 (omega arith), (told (3 * t + 2) e).1 (λ w. omega arith)))
    (λ u. omega (arith, (told t (e / 3)).0 q, (told (3 * t) e).1 (λ w. omega arith), (told (3 * t + 1) e).1 (λ w. omega arith), (told (3 * t + 2) e).0 (omega arith)))
    (eq_or_ne (e % 3) 1))
    (eq_or_ne (e % 3) 0))
    (λ q. omega (arith, (told t (e / 3)).1 q, (told (3 * t) e).1 (λ w. q (omega arith)), (told (3 * t + 1) e).1 (λ w. q (omega arith)), (told (3 * t + 2) e).1 (λ w. q (omega arith))))
    (eq_or_ne t (e / 3))

thirds : (t : ℕ) (l : List ℕ) → occ t (walk_triangles l) ≡ occ (3 * t) l + occ (3 * t + 1) l + occ (3 * t + 2) l
thirds t [] = refl
thirds t (e ∷ l) = omega (arith, same_third t e, thirds t l)

module _ {tri he hull : List ℕ} {n : ℕ} (ok : Topology tri he hull n) (s : ℕ) (l : s < n) where
  abbrev walk : List ℕ
  walk = whole_of he (get_or (leftmost_of tri he n) s 0)

  -- a half-edge stands in the walk of the site where it ends, once, and in no other
  in_walk : (e : ℕ) → e < length he → occ e walk ≡ same s (end_of tri e)
  in_walk e h =
      ⊎_elim
      (λ q. walk_each ok s l e h (sym q.0) ∙ sym q.1)
      (λ q. ⊎_elim (λ o. absurd (q.0 (sym (walk_only ok s l e o).1))) (λ o. omega (arith, q.1)) (lt_or_ge 0 (occ e walk)))
      (same_cases s (end_of tri e))

  ends : (e i : ℕ) → next_of e ≡ i → same s (end_of tri e) ≡ same s (get_or tri i 0)
  ends e i q = ap (λ (k : ℕ). same s (get_or tri k 0)) q

  pub ring_holds : (t : ℕ) → 3 * t + 2 < length he → occ t (walk_triangles walk) ≡ occ s (sites_of tri t)
  ring_holds t h =
      let a = in_walk (3 * t) (omega arith) ∙ ends (3 * t) (3 * t + 1) (omega (arith, next_sum (3 * t))) in
      let b = in_walk (3 * t + 1) (omega arith) ∙ ends (3 * t + 1) (3 * t + 2) (omega (arith, next_sum (3 * t + 1))) in
      let c = in_walk (3 * t + 2) h ∙ ends (3 * t + 2) (3 * t) (omega (arith, next_sum (3 * t + 2))) in
      omega (arith, thirds t walk, a, b, c)

-- of three sites that differ
pub distinct : (a b c s : ℕ) → a ≢ b → b ≢ c → c ≢ a → 0 < occ s (a ∷ b ∷ c ∷ []) → occ s (a ∷ b ∷ c ∷ []) ≡ 1
distinct a b c s p q r h =
    ⊎_elim
    (λ u. omega (arith, u.1, (told s b).1 (λ v. p (sym u.0 ∙ v)), (told s c).1 (λ w. r (sym w ∙ u.0))))
    (λ u. ⊎_elim
    (λ v. omega (arith, u.1, v.1, (told s c).1 (λ w. q (sym v.0 ∙ w))))
    (λ v. ⊎_elim (λ w. omega (arith, u.1, v.1, w.1)) (λ w. absurd (omega (arith, u.1, v.1, w.1))) (same_cases s c))
    (same_cases s b))
    (same_cases s a)
