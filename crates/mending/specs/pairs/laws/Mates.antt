-- The half-edge that runs the other way: what `mate_to` finds, and what it is where each ordered pair of sites has one half-edge.
use Rattle.std.specs.Prelude.{◌≡◌, List, [], ◌∷◌, Bool, true, false, ◌⊎◌, eqb, length, get_or}
use Rattle.std.proofs.Math.Path.{refl}
use Rattle.std.proofs.Common.{sym, ap, ◌∙◌, inr, ⊎_elim, arith, length-append, eq-eqb, eqb-true}
use Rattle.std.proofs.lemmas.Bool.{false≢true}
use Rattle.std.proofs.Math.Logic.{inl}
use Prim.Native.Nat.{ℕ, zero, suc, ◌<◌}
use Rattle.std.proofs.Math.ListN.{get_or-append}
use Rattle.std.proofs.lemmas.List.{get_or_at}
use Rattle.base.specs.common.Pick.{pick}
use Rattle.base.specs.common.laws.Decide.{lt_or_ge, eq_or_ne}
use Rattle.base.specs.common.laws.And.{and_left, and_right, and_both}
use Rattle.base.specs.numbers.Numbers.{EMPTY}
use Rattle.mesh.specs.Mesh.{start_of, end_of}
use Rattle.mending.specs.pairs.Pairs.{Reverse, reverses, mate_to, mate_of, pairs_to, AllSingle}

-- what is found below n: nothing, and there is nothing; or one that runs the other way
abbrev pub MateFound : List ℕ → ℕ → ℕ → ℕ → Type 0
MateFound tri e n m = ((m ≡ EMPTY) × ((d : ℕ) → d < n → Reverse tri e d → ⊥)) ⊎ ((m < n) × Reverse tri e m)

module _ (tri : List ℕ) (e : ℕ) where
  reverse_true : (d : ℕ) → reverses tri e d ≡ true → Reverse tri e d
  reverse_true d h =
      let a = eqb (start_of tri d) (end_of tri e) in
      let b = eqb (end_of tri d) (start_of tri e) in
      (eqb-true _ _ (and_left a b h), eqb-true _ _ (and_right a b h))

  true_reverse : (d : ℕ) → Reverse tri e d → reverses tri e d ≡ true
  true_reverse d h = and_both _ _ (eq-eqb _ _ h.0) (eq-eqb _ _ h.1)

  found_next : (n : ℕ) (b : Bool) → reverses tri e n ≡ b → MateFound tri e n (mate_to tri e n) → MateFound tri e (suc n) (pick b (λ _. n) (λ _. mate_to tri e n))
  found_next n true h f = inr (omega arith, reverse_true n h)
  found_next n false h f =
      ⊎_elim
      (λ w. inl (w.0, λ d l r. ⊎_elim (λ q. false≢true (sym h ∙ ap (reverses tri e) (sym q) ∙ true_reverse d r)) (λ q. w.1 d (omega arith) r) (eq_or_ne d n)))
      (λ w. inr (omega (arith, w.0), w.1))
      f

  pub mate_found : (n : ℕ) → MateFound tri e n (mate_to tri e n)
  unfolding mate_to
  mate_found zero = inl (refl, λ d l. absurd (omega arith))
  mate_found (suc n) = found_next n (reverses tri e n) refl (mate_found n)

  -- the one that runs the other way, where there is one alone
  pub mate_is : (m : ℕ) → m < length tri → Reverse tri e m → ((d : ℕ) → d < length tri → Reverse tri e d → d ≡ m) → mate_of tri e ≡ m
  mate_is m l r one = ⊎_elim (λ w. absurd (w.1 m l r)) (λ w. one (mate_of tri e) w.0 w.1) (mate_found (length tri))

  pub mate_none : ((d : ℕ) → d < length tri → Reverse tri e d → ⊥) → mate_of tri e ≡ EMPTY
  mate_none h = ⊎_elim (λ w. w.0) (λ w. absurd (h (mate_of tri e) w.0 w.1)) (mate_found (length tri))

-- two half-edges that run the same way between the same sites are one
pub single_one : (tri : List ℕ) → AllSingle tri → (d e : ℕ) → d < length tri → e < length tri → start_of tri d ≡ start_of tri e → end_of tri d ≡ end_of tri e → d ≡ e
single_one tri all d e ld le p q =
    ⊎_elim
    (λ h. absurd (all e le d h p q))
    (λ h. ⊎_elim (λ k. absurd (all d ld e k (sym p) (sym q))) (λ k. omega arith) (lt_or_ge e d))
    (lt_or_ge d e)

pub pairs_length : (tri : List ℕ) (n : ℕ) → length (pairs_to tri n) ≡ n
unfolding pairs_to
pairs_length tri zero = refl
pairs_length tri (suc n) = length-append (pairs_to tri n) (mate_of tri n ∷ []) ∙ omega (arith, pairs_length tri n)

pub pairs_at : (tri : List ℕ) (n e : ℕ) → e < n → get_or (pairs_to tri n) e 0 ≡ mate_of tri e
unfolding pairs_to
pairs_at tri zero e l = absurd (omega arith)
pairs_at tri (suc n) e l =
    ⊎_elim
    (λ q. rw q (get_or_at (pairs_to tri n) (mate_of tri n) [] 0 n (pairs_length tri n)))
    (λ q. let k : e < n = omega arith in get_or-append (pairs_to tri n) (mate_of tri n ∷ []) 0 e (rw (pairs_length tri n) k) ∙ pairs_at tri n e k)
    (eq_or_ne e n)
