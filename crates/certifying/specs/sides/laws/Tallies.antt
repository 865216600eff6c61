-- Tallies: what is skipped, what is added.
use Rattle.std.specs.Prelude.{◌≡◌, refl, Bool, true, false, ℕ, zero, suc, ◌+◌, ◌≤◌, ◌<◌}
use Rattle.std.specs.Int.{from_bool}
use Rattle.std.proofs.Common.{subst, ⊎_elim, arith}
use Rattle.base.specs.common.laws.Decide.{lt_or_ge}
use Rattle.certifying.specs.sides.Sides.{one_for, how_many}

pub bit_small : (t : Bool) → one_for t ≤ 1
unfolding one_for
bit_small true = omega arith
bit_small false = omega arith

-- a test as the library counts it
pub bit_from : (t : Bool) {n : ℕ} → n ≡ from_bool t → n ≡ one_for t
unfolding one_for
bit_from true e = e
bit_from false e = e

pub bit_none : {t : Bool} → t ≡ false → one_for t ≡ 0
unfolding one_for
bit_none {t} e = rw e refl

pub tally_most : (p : ℕ → Bool) (n : ℕ) → how_many p n ≤ n
tally_most p zero = omega arith
tally_most p (suc n) = omega (arith, tally_most p n, bit_small (p n))

-- the numbers from x on are not taken
pub tally_skip : (p : ℕ → Bool) (n x : ℕ) → x ≤ n → ((k : ℕ) → x ≤ k → k < n → p k ≡ false) → how_many p n ≡ how_many p x
tally_skip p zero x h none = let z : x ≡ 0 = omega arith in rw z refl
tally_skip p (suc n) x h none =
    ⊎_elim
    (λ k. let i : x ≤ n = omega arith in plain _ _ _ (tally_skip p n x i (λ j a b. none j a (omega arith))) (bit_none (none n i (omega arith))))
    (λ k. let z : x ≡ suc n = omega arith in rw z refl)
    (lt_or_ge x (suc n))
  where
    plain : (a b c : ℕ) → a ≡ c → b ≡ 0 → a + b ≡ c
    plain a b c e f = omega arith

-- a loop that tallies two tests
pub record TalliesTo (p q : ℕ → Bool) (n k a b : ℕ) : Type 0 where
  pub most : k ≤ n
  pub first : a ≡ how_many p k
  pub second : b ≡ how_many q k

pub tallies_start : (p q : ℕ → Bool) (n : ℕ) → TalliesTo p q n 0 0 0
tallies_start p q n = record { most = omega arith; first = refl; second = refl }

module _ {p q : ℕ → Bool} {n k a b : ℕ} (t : TalliesTo p q n k a b) where
  pub tallies_few : (a ≤ k) × (b ≤ k)
  tallies_few = (omega (arith, t.first, tally_most p k), omega (arith, t.second, tally_most q k))

  pub tallies_step : {c d : ℕ} → k < n → c ≡ one_for (p k) → d ≡ one_for (q k) → TalliesTo p q n (k + 1) (a + c) (b + d)
  tallies_step {c} {d} h e f =
      let z : k + 1 ≡ suc k = omega arith in
      record { most = omega arith; first = rw z (plain _ _ _ _ t.first e); second = rw z (plain _ _ _ _ t.second f) }
    where
      plain : (a c u v : ℕ) → a ≡ u → c ≡ v → a + c ≡ u + v
      plain a c u v e f = omega arith

  pub tallies_end : n ≤ k → (a ≡ how_many p n) × (b ≡ how_many q n)
  tallies_end h = let z : k ≡ n = omega (arith, t.most) in (subst (λ (i : ℕ). a ≡ how_many p i) z t.first, subst (λ (i : ℕ). b ≡ how_many q i) z t.second)
