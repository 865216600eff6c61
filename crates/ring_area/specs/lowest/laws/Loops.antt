-- A loop that has passed the numbers below i, of which the test takes none, and where it stops; what the definition says of the numbers below n.
use Rattle.std.specs.Prelude.{◌≡◌, refl, Bool, true, false, ℕ, zero, suc, ◌+◌, ◌*◌, ◌/◌, ◌≤◌, ◌<◌}
use Rattle.std.proofs.Common.{sym, ap, ◌∙◌, ⊎_elim, arith, lt-ltb, le-ltb}
use Rattle.base.specs.common.Decide.{First}
use Rattle.base.specs.common.Pick.{pick}
use Rattle.base.specs.common.laws.Decide.{eq_or_ne, lt_or_ge, first_one}
use Rattle.ring_area.specs.lowest.Lowest.{lowest_from, lowest, any_below}

record LowestOf (p : ℕ → Bool) (i n r : ℕ) : Type 0 where
  from : i ≤ r
  within : r ≤ i + n
  before : (k : ℕ) → i ≤ k → k < r → p k ≡ false
  at : r < i + n → p r ≡ true

lowest_of_lem : (p : ℕ → Bool) (i n : ℕ) → LowestOf p i n (lowest_from p i n)
unfolding lowest_from
lowest_of_lem p i zero = record { from = omega arith; within = omega arith; before = λ k h g. absurd (omega arith); at = λ h. absurd (omega arith) }
lowest_of_lem p i (suc n) = go (p i) refl (lowest_of_lem p (suc i) n)
  where
    go : (t : Bool) → p i ≡ t → LowestOf p (suc i) n (lowest_from p (suc i) n) → LowestOf p i (suc n) (pick t (λ _. i) (λ _. lowest_from p (suc i) n))
    go true e h = record { from = omega arith; within = omega arith; before = λ k a g. absurd (omega arith); at = λ _. e }
    go false e h =
        record {
          from = omega (arith, h.from);
          within = omega (arith, h.within);
          before = λ k a b. ⊎_elim (λ q. ap p q ∙ e) (λ q. h.before k (later k a q) b) (eq_or_ne k i);
          at = λ g. h.at (omega arith);
        }
      where
        later : (k : ℕ) → i ≤ k → (k ≡ i → ⊥) → suc i ≤ k
        later k a q = ⊎_elim (λ l. absurd (q (omega arith))) (λ l. l) (lt_or_ge k (suc i))

-- ---- the definition
abbrev pub Free : (ℕ → Bool) → ℕ → Type 0
Free p k = p k ≡ false

pub no_both : true ≡ false → ⊥
no_both q = let z : ◌≡◌ {A = ℕ} 0 1 = cc in omega arith

-- site e of n / 2 has two numbers among n
pub named_twice : (e n : ℕ) → e < n / 2 → 2 * e + 1 < n
named_twice e n h = omega arith

pub lowest_first : (p : ℕ → Bool) (n : ℕ) → First (Free p) n (lowest p n)
lowest_first p n =
    let h = lowest_of_lem p 0 n in
    record { within = omega (arith, h.within); before = λ k g. h.before k (omega arith) g; at = λ g f. no_both (sym (h.at (omega arith)) ∙ f) }

-- what a first offender is
pub lowest_is : (p : ℕ → Bool) {n r : ℕ} → First (Free p) n r → r ≡ lowest p n
lowest_is p {n} f = first_one f (lowest_first p n)

-- the test takes what is found
pub lowest_takes : (p : ℕ → Bool) (n : ℕ) → lowest p n < n → p (lowest p n) ≡ true
lowest_takes p n h = (lowest_of_lem p 0 n).at (omega arith)

pub none_below : (p : ℕ → Bool) (n : ℕ) → ((k : ℕ) → k < n → p k ≡ false) → any_below p n ≡ false
none_below p n a = le-ltb (lowest p n) n (⊎_elim (λ h. absurd (no_both (sym (lowest_takes p n h) ∙ a (lowest p n) h))) (λ h. h) (lt_or_ge (lowest p n) n))

pub some_below : (p : ℕ → Bool) {n : ℕ} (k : ℕ) → k < n → p k ≡ true → any_below p n ≡ true
some_below p {n} k h e =
    lt-ltb (lowest p n) n (⊎_elim (λ g. g) (λ g. absurd (no_both (sym e ∙ (lowest_first p n).before k (omega arith)))) (lt_or_ge (lowest p n) n))

-- and back: no number below n is taken
pub none_taken : (p : ℕ → Bool) (n : ℕ) → any_below p n ≡ false → (k : ℕ) → k < n → p k ≡ false
none_taken p n e k h = go (p k) refl
  where
    go : (b : Bool) → p k ≡ b → b ≡ false
    go true f = absurd (no_both (sym (some_below p k h f) ∙ e))
    go false f = refl

-- ---- the loop
pub record NoneTo (p : ℕ → Bool) (n i : ℕ) : Type 0 where
  pub most : i ≤ n
  pub none : (k : ℕ) → k < i → p k ≡ false

pub passed_start : (p : ℕ → Bool) (n : ℕ) → NoneTo p n 0
passed_start p n = record { most = omega arith; none = λ k h. absurd (omega arith) }

module _ {p : ℕ → Bool} {n i : ℕ} (a : NoneTo p n i) where
  pub passed_step : {b : Bool} → i < n → b ≡ p i → b ≡ false → NoneTo p n (i + 1)
  passed_step h e f = record { most = omega arith; none = λ k g. ⊎_elim (λ q. ap p q ∙ sym e ∙ f) (λ q. a.none k (before k g q)) (eq_or_ne k i) }
    where
      before : (k : ℕ) → k < i + 1 → (k ≡ i → ⊥) → k < i
      before k g q = ⊎_elim (λ l. l) (λ l. absurd (q (omega arith))) (lt_or_ge k i)

  -- stopped at one that the test takes
  pub passed_found : {b : Bool} → i < n → b ≡ p i → b ≡ true → i ≡ lowest p n
  passed_found h e f = lowest_is p (record { within = a.most; before = a.none; at = λ _ g. no_both (sym (sym e ∙ f) ∙ g) })

  -- or at the end
  pub passed_end : n ≤ i → i ≡ lowest p n
  passed_end h = lowest_is p (record { within = a.most; before = a.none; at = λ g. absurd (omega arith) })

  -- the same as a yes or a no
  pub passed_yes : {b : Bool} → i < n → b ≡ p i → b ≡ true → true ≡ any_below p n
  passed_yes h e f = sym (some_below p i h (sym e ∙ f))

  pub passed_no : n ≤ i → false ≡ any_below p n
  passed_no h = sym (none_below p n (λ k g. a.none k (omega (arith, a.most))))
