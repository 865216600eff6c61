-- Tests of numbers and what they tell; what an answer tells, and that there is one first offender.
use Rattle.std.specs.Prelude.{◌≡◌, refl, Bool, true, false, not, ◌⊎◌, ◌≢◌, ℕ, ◌≤◌, ◌<◌, ltb, eqb}
use Rattle.std.proofs.Common.{inl, inr, ⊎_elim, arith, eqb-true, ltb-true, ltb-false}
use Rattle.std.proofs.lemmas.Bool.{eqb-false}
use Rattle.base.specs.common.Decide.{Says, First}

pub lt_or_ge : (a b : ℕ) → (a < b) ⊎ (b ≤ a)
lt_or_ge a b = go (ltb a b) refl
  where
    go : (t : Bool) → ltb a b ≡ t → (a < b) ⊎ (b ≤ a)
    go true h = inl (ltb-true a b h)
    go false h = inr (ltb-false a b h)

pub eq_or_ne : (a b : ℕ) → (a ≡ b) ⊎ (a ≢ b)
eq_or_ne a b = go (eqb a b) refl
  where
    go : (t : Bool) → eqb a b ≡ t → (a ≡ b) ⊎ (a ≢ b)
    go true h = inl (eqb-true a b h)
    go false h = inr (eqb-false a b h)

-- what a refused or a granted answer tells
pub refused : {P : Type 0} (b : Bool) → not b ≡ true → Says b P → P → ⊥
refused true h s p = let z : ◌≡◌ {A = ℕ} 0 1 = cc in omega arith
refused false h s p = s p

pub granted : {P : Type 0} (b : Bool) → not b ≡ false → Says b P → P
granted true h s = s
granted false h s = let z : ◌≡◌ {A = ℕ} 0 1 = cc in absurd (omega arith)

-- an answer to B is one to A or B where A does not hold
pub says_or : {A : Type 0} (B : Type 0) (b : Bool) → (A → ⊥) → Says b B → Says b (A ⊎ B)
says_or B true n s = inr s
says_or B false n s = ⊎_elim n s

-- the first that does not hold is the end exactly where all hold
pub first_all : {P : ℕ → Type 0} {n r : ℕ} → First P n r → n ≤ r → (k : ℕ) → k < n → P k
first_all f h k l = f.before k (omega arith)

pub first_not : {P : ℕ → Type 0} {n r : ℕ} → First P n r → r < n → ((k : ℕ) → k < n → P k) → ⊥
first_not {P} {n} {r} f h all = f.at h (all r h)

-- there is one first offender
pub first_one : {P : ℕ → Type 0} {n r q : ℕ} → First P n r → First P n q → r ≡ q
first_one {P} {n} {r} {q} f g =
    ⊎_elim
    (λ h. absurd (f.at (omega (arith, g.within)) (g.before r h)))
    (λ h. ⊎_elim (λ k. absurd (g.at (omega (arith, f.within)) (f.before q k))) (λ k. omega arith) (lt_or_ge q r))
    (lt_or_ge r q)
