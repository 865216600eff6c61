-- Two texts are the same exactly where their bytes are; what the arguments ask for, by how many there are.
use Rattle.std.specs.Prelude.{◌≡◌, refl, None, Bool, true, false, ◌&&◌, List, [], ◌∷◌, ◌≢◌, ℕ, ◌≤◌, ◌<◌, eqb}
use Rattle.std.proofs.Common.{sym, ap₂, subst, arith}
use borrow.Author.Tests.{eq-eqb, ne_eqb, lt-ltb, le-ltb, eqb-true}
use Rattle.printing.specs.parts.Text.{ascii}
use Rattle.mend.specs.Printed.{same_bytes, is_option, way_if, way_of}

same_refl : (s : List ℕ) → same_bytes s s ≡ true
same_refl [] = refl
same_refl (a ∷ s) = rw (eq-eqb a a refl) (same_refl s)

same_is : (s t : List ℕ) → same_bytes s t ≡ true → s ≡ t
same_is [] [] h = refl
same_is [] (b ∷ t) h = let z : ◌≡◌ {A = ℕ} 0 1 = cc in absurd (omega arith)
same_is (a ∷ s) [] h = let z : ◌≡◌ {A = ℕ} 0 1 = cc in absurd (omega arith)
same_is (a ∷ s) (b ∷ t) h = go (eqb a b) refl h (same_is s t)
  where
    go : (x : Bool) → eqb a b ≡ x → x && same_bytes s t ≡ true → (same_bytes s t ≡ true → s ≡ t) → a ∷ s ≡ b ∷ t
    go true q r f = ap₂ (λ (c : ℕ) (u : List ℕ). c ∷ u) (eqb-true a b q) (f r)
    go false q r f = let z : ◌≡◌ {A = ℕ} 0 1 = cc in absurd (omega arith)

-- an answer that says whether two texts are the same is `same_bytes`
pub told : (s t : List ℕ) (r : Bool) → (r ≡ true → s ≡ t) → (s ≡ t → r ≡ true) → r ≡ same_bytes s t
told s t true p q = sym (subst (λ (u : List ℕ). same_bytes s u ≡ true) (p refl) (same_refl s))
told s t false p q = go (same_bytes s t) refl
  where
    go : (x : Bool) → same_bytes s t ≡ x → false ≡ x
    go true h = q (same_is s t h)
    go false h = refl

-- ---- the arguments

module _ (count : ℕ) (first label digits : List ℕ) where
  pub no_words : count < 2 → way_of count first label digits ≡ way_if true false false
  unfolding way_of
  no_words h = rw (lt-ltb count 2 h)

  pub one_word : count ≡ 2 → way_of count first label digits ≡ way_if (same_bytes first (ascii "form")) true false
  unfolding way_of
  one_word h = rw h

  pub two_words : count ≡ 3 → way_of count first label digits ≡ way_if (is_option label digits) false true
  unfolding way_of
  two_words h = rw h

  pub three_words : count ≡ 4 → way_of count first label digits ≡ way_if (same_bytes first (ascii "form") && is_option label digits) true true
  unfolding way_of
  three_words h = rw h

  pub more_words : 2 ≤ count → count ≢ 2 → count ≢ 3 → count ≢ 4 → way_of count first label digits ≡ None
  unfolding way_of
  more_words h a b c = rw (le-ltb count 2 h, ne_eqb count 2 a, ne_eqb count 3 b, ne_eqb count 4 c)
