-- A list written into another from a place on: `sets` of lib.Seq, the run of stores itself. It is the one way in which what a slice holds after a
-- write is said: new ≡ sets old i vs. The laws: its length; what stands in it, before it and behind it; a run after a run; a loop's store; a part of it.
use Rattle.std.specs.Prelude.{◌≡◌, refl, List, [], ◌∷◌, ◌++◌, ℕ, zero, suc, ◌+◌, ◌-◌, ◌≤◌, ◌<◌, length, get_or, set, take, drop}
use Rattle.std.proofs.Common.{sym, ap, ◌∙◌, append_assoc, ⊎_elim, add-zero, arith, length-set, get_or-set_same, get_or-set_other, take-suc, length-take-le, take_at, drop_at, drop-set-lt, ext_get_or}
use Rattle.std.proofs.lemmas.List.Edits.{sets, sets-eq}
use Rattle.std.proofs.lemmas.List.{take-set-le}
use Rattle.std.proofs.Math.Seq.{length-sets}
use Rattle.base.specs.common.laws.Decide.{lt_or_ge}

module _ {A : Type 0} where
  -- two runs of which the second starts where the first ends are one
  pub sets_join : (a b l : List A) (i j : ℕ) → j ≡ i + length a → sets (sets l i a) j b ≡ sets l i (a ++ b)
  sets_join [] b l i j e = ap (λ (k : ℕ). sets l k b) (omega arith)
  sets_join (x ∷ a) b l i j e = sets_join a b (set l i x) (suc i) j (omega arith)

  -- a loop's store: the run of k entries of vs becomes that of k + 1
  pub sets_more : (vs l : List A) (i k : ℕ) (z : A) → k < length vs → set (sets l i (take k vs)) (i + k) (get_or vs k z) ≡ sets l i (take (suc k) vs)
  sets_more vs l i k z h =
      sets_join (take k vs) (get_or vs k z ∷ []) l i (i + k) (omega (arith, length-take-le k vs (omega arith)))
      ∙ ap (sets l i) (sym (take-suc vs k z h))

  -- from the beginning: the new entries, then what is left of the old
  pub sets_all : (a l : List A) → length a ≤ length l → sets l 0 a ≡ a ++ drop (length a) l
  sets_all a l h =
      let e : 0 + length a ≡ length a = omega arith in
      sets-eq a l 0 (omega arith) ∙ ap (λ (k : ℕ). a ++ drop k l) e

  -- what stands in it, before it and behind it
  pub sets_before : (vs l : List A) (i k : ℕ) (z : A) → k < i → get_or (sets l i vs) k z ≡ get_or l k z
  sets_before [] l i k z h = refl
  sets_before (x ∷ vs) l i k z h = sets_before vs (set l i x) (suc i) k z (omega arith) ∙ get_or-set_other l i k x z (λ q. omega arith)

  pub sets_behind : (vs l : List A) (i k : ℕ) (z : A) → i + length vs ≤ k → get_or (sets l i vs) k z ≡ get_or l k z
  sets_behind [] l i k z h = refl
  sets_behind (x ∷ vs) l i k z h = sets_behind vs (set l i x) (suc i) k z (omega arith) ∙ get_or-set_other l i k x z (λ q. omega arith)

  pub sets_in : (vs l : List A) (i k : ℕ) (z : A) → i + length vs ≤ length l → k < length vs → get_or (sets l i vs) (i + k) z ≡ get_or vs k z
  sets_in [] l i k z h g = absurd (omega arith)
  sets_in (x ∷ vs) l i zero z h g =
      rw (add-zero i) (sets_before vs (set l i x) (suc i) i z (omega arith) ∙ get_or-set_same l i x z (omega arith))
  sets_in (x ∷ vs) l i (suc k) z h g =
      let q : i + suc k ≡ suc i + k = omega arith in
      rw q (sets_in vs (set l i x) (suc i) k z (rw (length-set l i x) (omega arith)) (omega arith))

  -- a part of it: the beginning, and what lies behind
  take_set : (n : ℕ) (l : List A) (i : ℕ) (x : A) → take n (set l i x) ≡ set (take n l) i x
  take_set zero l i x = refl
  take_set (suc n) [] i x = refl
  take_set (suc n) (y ∷ l) zero x = refl
  take_set (suc n) (y ∷ l) (suc i) x = ap (λ (r : List A). y ∷ r) (take_set n l i x)

  pub take_sets : (n : ℕ) (vs l : List A) (i : ℕ) → take n (sets l i vs) ≡ sets (take n l) i vs
  take_sets n [] l i = refl
  take_sets n (x ∷ vs) l i = take_sets n vs (set l i x) (suc i) ∙ ap (λ (r : List A). sets r (suc i) vs) (take_set n l i x)

  pub drop_sets : (n : ℕ) (vs l : List A) (i : ℕ) → i + length vs ≤ n → drop n (sets l i vs) ≡ drop n l
  drop_sets n [] l i h = refl
  drop_sets n (x ∷ vs) l i h = drop_sets n vs (set l i x) (suc i) (omega arith) ∙ drop-set-lt n l i x (omega arith)

  -- read again
  pub sets_there : (vs l : List A) (i : ℕ) → i + length vs ≤ length l → take (length vs) (drop i (sets l i vs)) ≡ vs
  sets_there vs l i h =
      let e = drop_at (take i l) (vs ++ drop (i + length vs) l) i (length-take-le i l (omega arith)) in
      ap (λ (r : List A). take (length vs) (drop i r)) (sets-eq vs l i h ∙ append_assoc (take i l) vs (drop (i + length vs) l))
      ∙ ap (take (length vs)) e
      ∙ take_at vs (drop (i + length vs) l) (length vs) refl

  pub take_sets_le : (n : ℕ) (vs l : List A) (i : ℕ) → n ≤ i → take n (sets l i vs) ≡ take n l
  take_sets_le n [] l i h = refl
  take_sets_le n (x ∷ vs) l i h = take_sets_le n vs (set l i x) (suc i) (omega arith) ∙ take-set-le n l i x h

  -- told place by place
  pub sets_ext : (z : A) (vs l new : List A) (i : ℕ) → i + length vs ≤ length l → length new ≡ length l
      → ((k : ℕ) → k < i → get_or new k z ≡ get_or l k z) → ((k : ℕ) → k < length vs → get_or new (i + k) z ≡ get_or vs k z)
      → ((k : ℕ) → i + length vs ≤ k → get_or new k z ≡ get_or l k z) → new ≡ sets l i vs
  sets_ext z vs l new i h long before inside behind =
      ext_get_or z new (sets l i vs) (long ∙ sym (length-sets l i vs))
      (λ k _. ⊎_elim
      (λ a. before k a ∙ sym (sets_before vs l i k z a))
      (λ a. ⊎_elim
      (λ b. let q : k ≡ i + (k - i) = omega arith in rw q (inside (k - i) (omega arith) ∙ sym (sets_in vs l i (k - i) z h (omega arith))))
      (λ b. behind k b ∙ sym (sets_behind vs l i k z b))
      (lt_or_ge k (i + length vs)))
      (lt_or_ge k i))
