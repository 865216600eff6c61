-- The three half-edges of a triangle: which is next to each, and that what holds of the three of each triangle holds of all.
use Rattle.std.specs.Prelude.{◌≡◌, List, ◌≢◌, ℕ, ◌+◌, ◌*◌, ◌/◌, ◌%◌, ◌<◌, length}
use Rattle.std.proofs.Common.{sym, ap, ◌∙◌, ⊎_elim, arith}
use Rattle.base.specs.common.laws.Decide.{eq_or_ne}
use Rattle.mesh.specs.Mesh.{next_of, start_of, end_of, AllSound}
use Rattle.mesh.specs.laws.Next.{next_sum}

module _ (t : ℕ) where
  pub first_next : 3 * t + 1 ≡ next_of (3 * t)
  first_next = omega (arith, next_sum (3 * t))

  pub second_next : 3 * t + 2 ≡ next_of (3 * t + 1)
  second_next = omega (arith, next_sum (3 * t + 1))

  pub third_next : 3 * t ≡ next_of (3 * t + 2)
  third_next = omega (arith, next_sum (3 * t + 2))

pub by_threes : (P : ℕ → Type 0) (n : ℕ) → n % 3 ≡ 0 → ((t : ℕ) → t < n / 3 → P (3 * t) × P (3 * t + 1) × P (3 * t + 2)) → (e : ℕ) → e < n → P e
by_threes P n threes all e l =
    let g = all (e / 3) (omega arith) in
    ⊎_elim
    (λ h. let q : e ≡ 3 * (e / 3) = omega arith in rw q g.0)
    (λ h. ⊎_elim
    (λ k. let q : e ≡ 3 * (e / 3) + 1 = omega arith in rw q g.1)
    (λ k. let q : e ≡ 3 * (e / 3) + 2 = omega arith in rw q g.2)
    (eq_or_ne (e % 3) 1))
    (eq_or_ne (e % 3) 0)

-- no half-edge of sound triangles ends where it starts
pub sound_ends : (tri : List ℕ) (sites : ℕ) → length tri % 3 ≡ 0 → AllSound tri sites → (e : ℕ) → e < length tri → start_of tri e ≢ end_of tri e
sound_ends tri sites threes sound =
    by_threes (λ e. start_of tri e ≢ end_of tri e) (length tri) threes (λ t l.
    let s = sound t l in (
      λ z. s.ab (z ∙ ap (start_of tri) (sym (first_next t))),
      λ z. s.bc (z ∙ ap (start_of tri) (sym (second_next t))),
      λ z. s.ca (z ∙ ap (start_of tri) (sym (third_next t))),
    ))
