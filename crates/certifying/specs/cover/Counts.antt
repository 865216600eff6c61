-- Theorem: where no side comes more often than the same side back, every sum over the sides is the sum over the sides back. Of any things that can be told apart.
use Rattle.std.specs.Prelude.{◌≡◌, ◌⊎◌, length}
use Rattle.std.proofs.Math.Path.{refl, ap}
use Rattle.std.proofs.Common.{sym, ◌∙◌, inl, inr, le_refl}
use mathlib.Core.List.{List, [], ◌∷◌}
use Rattle.std.proofs.Math.Logic.{⊎_elim}
use Prim.Native.Nat.{ℕ, zero, suc, ◌+◌, ◌≤◌, ◌<◌}
use native.Mathlib.Omega.{arith}

abbrev pub one_of : {A B : Type 0} → A ⊎ B → ℕ
one_of (inl a) = 1
one_of (inr b) = 0

module _ {S : Type 0} (told : (x y : S) → (x ≡ y) ⊎ (x ≡ y → ⊥)) where
  unfoldable pub sum_listed : (S → ℕ) → List S → ℕ
  sum_listed f [] = 0
  sum_listed f (x ∷ l) = f x + sum_listed f l

  unfoldable pub one_where : S → S → ℕ
  one_where x y = one_of (told x y)

  unfoldable pub times_in : S → List S → ℕ
  times_in x [] = 0
  times_in x (y ∷ l) = one_where x y + times_in x l

  pub one_same : (x y : S) → x ≡ y → one_where x y ≡ 1
  unfolding one_where
  one_same x y h = go (told x y)
    where
      go : (t : (x ≡ y) ⊎ (x ≡ y → ⊥)) → one_of t ≡ 1
      go (inl e) = refl
      go (inr n) = absurd (n h)

  pub one_other : (x y : S) → (x ≡ y → ⊥) → one_where x y ≡ 0
  unfolding one_where
  one_other x y h = go (told x y)
    where
      go : (t : (x ≡ y) ⊎ (x ≡ y → ⊥)) → one_of t ≡ 0
      go (inl e) = absurd (h e)
      go (inr n) = refl

  -- l has x once more than m, and else the same
  record Without (x : S) (l m : List S) : Type 0 where
    shorter : length l ≡ suc (length m)
    totals : (f : S → ℕ) → sum_listed f l ≡ f x + sum_listed f m
    counts : (y : S) → times_in y l ≡ one_where y x + times_in y m

  without : (x : S) (l : List S) → 0 < times_in x l → (m : List S) × Without x l m
  unfolding sum_listed times_in
  without x [] h = absurd (go h)
    where
      go : 0 < 0 → ⊥
      go h = omega arith
  without x (y ∷ l) h =
      ⊎_elim
      (λ e. (l, record { shorter = refl; totals = λ f. ap (λ (z : S). f z + sum_listed f l) (sym e); counts = λ z. ap (λ (u : S). one_where z u + times_in z l) (sym e) }))
      (λ n. let w = without x l (rest (one_where x y) (times_in x l) h (one_other x y n)) in
      (y ∷ w.0, record { shorter = ap suc w.1.shorter; totals = λ f. turn (f y) (f x) _ _ (w.1.totals f); counts = λ z. turn (one_where z y) (one_where z x) _ _ (w.1.counts z) }))
      (told x y)
    where
      rest : (u v : ℕ) → 0 < u + v → u ≡ 0 → 0 < v
      rest u v h e = omega arith

      turn : (u v s m : ℕ) → s ≡ v + m → u + s ≡ v + (u + m)
      turn u v s m e = omega arith

  module _ (side_back : S → S) (twice : (x : S) → side_back (side_back x) ≡ x) where
    one_back : (x y : S) → one_where (side_back x) y ≡ one_where x (side_back y)
    one_back x y =
        ⊎_elim (λ e. one_same (side_back x) y e ∙ sym (one_same x (side_back y) (sym (twice x) ∙ ap side_back e)))
        (λ n. one_other (side_back x) y n ∙ sym (one_other x (side_back y) (λ e. n (ap side_back e ∙ twice y)))) (told (side_back x) y)

    back_both : (x y : S) → one_where (side_back y) (side_back x) ≡ one_where y x
    back_both x y = one_back y (side_back x) ∙ ap (one_where y) (twice x)

    -- never more often than the other way
    abbrev pub Balanced : List S → Type 0
    Balanced l = (x : S) → times_in x l ≤ times_in (side_back x) l

    abbrev Cancels : ℕ → List S → Type 0
    Cancels n l = length l ≤ n → Balanced l → (f : S → ℕ) → sum_listed f l ≡ sum_listed (λ x. f (side_back x)) l

    step : (n : ℕ) → ((m : List S) → Cancels n m) → (l : List S) → Cancels (suc n) l
    unfolding sum_listed times_in
    step n fine [] h bal f = refl
    step n fine (x ∷ l) h bal f = ⊎_elim itself other (told (side_back x) x)
      where
        itself : side_back x ≡ x → f x + sum_listed f l ≡ f (side_back x) + sum_listed (λ y. f (side_back y)) l
        itself e = both (f x) (f (side_back x)) _ _ (sym (ap f e)) (fine l (fewer₁ (length l) n h) smaller₁ f)
          where
            both : (u v a b : ℕ) → u ≡ v → a ≡ b → u + a ≡ v + b
            both u v a b e g = omega arith

            fewer₁ : (a n : ℕ) → suc a ≤ suc n → a ≤ n
            fewer₁ a n h = omega arith

            smaller₁ : Balanced l
            smaller₁ y = take (one_where y x) (one_where (side_back y) x) _ _ (ap (one_where (side_back y)) (sym e) ∙ back_both x y) (bal y)
              where
                take : (a b c d : ℕ) → b ≡ a → a + c ≤ b + d → c ≤ d
                take a b c d e h = omega arith

        other : (side_back x ≡ x → ⊥) → f x + sum_listed f l ≡ f (side_back x) + sum_listed (λ y. f (side_back y)) l
        other differs =
            let w = without (side_back x) l (there (one_same x x refl) (one_other (side_back x) x differs) (bal x)) in
            let m = w.0 in
            let s = w.1 in
            let less = fewer (length l) (length m) n h s.shorter in
            sum (f x) (f (side_back x)) _ _ _ _ (f (side_back (side_back x))) (s.totals f) (s.totals (λ y. f (side_back y))) (fine m less (smaller m s) f) (ap f (twice x))
          where
            there : one_where x x ≡ 1 → one_where (side_back x) x ≡ 0 → one_where x x + times_in x l ≤ one_where (side_back x) x + times_in (side_back x) l → 0 < times_in (side_back x) l
            there e z h = omega arith

            fewer : (a b n : ℕ) → suc a ≤ suc n → a ≡ suc b → b ≤ n
            fewer a b n h e = omega arith

            sum : (u v a b c d u' : ℕ) → a ≡ v + c → b ≡ u' + d → c ≡ d → u' ≡ u → u + a ≡ v + b
            sum u v a b c d u' e g k i = omega arith

            smaller : (m : List S) → Without (side_back x) l m → Balanced m
            smaller m s y =
                take (one_where y x) (one_where y (side_back x)) (one_where (side_back y) x) (one_where (side_back y) (side_back x)) _ _ _ _ (s.counts y) (s.counts (side_back y)) (one_back y x)
                (back_both x y) (bal y)
              where
                take : (a b c d p q r t : ℕ) → p ≡ b + q → r ≡ d + t → c ≡ b → d ≡ a → a + p ≤ c + r → q ≤ t
                take a b c d p q r t e g h k m = omega arith

    nothing : (l : List S) → Cancels 0 l
    unfolding sum_listed
    nothing [] h bal f = refl
    nothing (x ∷ l) h bal f = absurd (go (length l) h)
      where
        go : (n : ℕ) → suc n ≤ 0 → ⊥
        go n h = omega arith

    by_length : (n : ℕ) (l : List S) → Cancels n l
    by_length zero = nothing
    by_length (suc n) = step n (by_length n)

    pub cancelled : (l : List S) → Balanced l → (f : S → ℕ) → sum_listed f l ≡ sum_listed (λ x. f (side_back x)) l
    cancelled l = by_length (length l) l (le_refl (length l))
