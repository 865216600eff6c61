-- The next half-edge of the same triangle.
use Rattle.std.specs.Prelude.{◌≡◌, refl, Bool, true, false, ◌≢◌, ℕ, ◌+◌, ◌-◌, ◌*◌, ◌/◌, ◌%◌, ◌<◌, eqb}
use Rattle.std.proofs.Common.{⊎_elim, arith, eqb-true}
use Rattle.std.proofs.lemmas.Bool.{eqb-false}
use Rattle.base.specs.common.Pick.{pick}
use Rattle.base.specs.common.laws.Decide.{eq_or_ne}
use Rattle.mesh.specs.Mesh.{next_of}

-- the next half-edge, as one sum
pub next_sum : (e : ℕ) → next_of e ≡ e + 1 - 3 * (e % 3 / 2)
unfolding next_of
next_sum e = go (eqb (e % 3) 2) refl
  where
    go : (b : Bool) → eqb (e % 3) 2 ≡ b → pick b (λ _. e - 2) (λ _. e + 1) ≡ e + 1 - 3 * (e % 3 / 2)
    go true h = omega (arith, eqb-true (e % 3) 2 h)
    go false h = omega (arith, eqb-false (e % 3) 2 h)

pub next_lt : {e n : ℕ} → n % 3 ≡ 0 → e < n → next_of e < n
next_lt {e} {n} d h = omega (arith, next_sum e)

pub next_inj : {a b : ℕ} → next_of a ≡ next_of b → a ≡ b
next_inj {a} {b} h = omega (arith, next_sum a, next_sum b)

next_on : (e : ℕ) → e % 3 ≢ 2 → next_of e ≡ e + 1
next_on e h = omega (arith, next_sum e)

next_back : (e : ℕ) → e % 3 ≡ 2 → next_of e ≡ e - 2
next_back e h = omega (arith, next_sum e)

pub next_thrice : (e : ℕ) → next_of (next_of (next_of e)) ≡ e
next_thrice e =
    ⊎_elim
    (λ h. rw (next_on e (omega arith), next_on (e + 1) (omega arith), next_back (e + 1 + 1) (omega arith)) (omega arith))
    (λ g. ⊎_elim
    (λ h. rw (next_on e (omega arith), next_back (e + 1) (omega arith), next_on (e + 1 - 2) (omega arith)) (omega arith))
    (λ h. rw (next_back e (omega arith), next_on (e - 2) (omega arith), next_on (e - 2 + 1) (omega arith)) (omega arith))
    (eq_or_ne (e % 3) 1))
    (eq_or_ne (e % 3) 0)
