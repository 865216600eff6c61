-- Lists told by their places, and loops that fill one or write its bytes.
use Rattle.std.specs.Prelude.{◌≡◌, refl, List, [], ◌∷◌, ◌++◌, ℕ, zero, suc, ◌+◌, ◌≤◌, ◌<◌, length, get_or, set}
use Rattle.std.proofs.Common.{sym, ap, ◌∙◌, append-nil, ⊎_elim, arith, add-one, length-append, drop_of_length-le, ext_get_or}
use Rattle.std.proofs.Math.ListN.{get_or-append}
use Rattle.std.proofs.lemmas.List.Edits.{sets}
use Rattle.std.proofs.Math.Seq.{length-sets}
use Rattle.std.proofs.lemmas.List.{get_or_at}
use Rattle.base.specs.common.laws.Decide.{lt_or_ge}
use Rattle.base.specs.common.laws.Stores.{sets_join, sets_all}
use Rattle.octets.specs.Bytes.{each}
use Rattle.octets.specs.laws.Bytes.{each_append}
use Rattle.wkb.specs.multipoint.Promise.{firsts}

module _ {A : Type 0} (f : ℕ → A) where
  pub length_firsts : (n : ℕ) → length (firsts f n) ≡ n
  length_firsts zero = refl
  length_firsts (suc n) = omega (arith, length-append (firsts f n) (f n ∷ []), length_firsts n)

  pub get_d_firsts : (n k : ℕ) (z : A) → k < n → get_or (firsts f n) k z ≡ f k
  get_d_firsts zero k z h = absurd (omega arith)
  get_d_firsts (suc n) k z h =
      ⊎_elim
      (λ l. get_or-append (firsts f n) (f n ∷ []) z k (omega (arith, length_firsts n)) ∙ get_d_firsts n k z l)
      (λ l. let e : k ≡ n = omega arith in rw e (get_or_at (firsts f n) (f n) [] z n (length_firsts n)))
      (lt_or_ge k n)

  -- a list with these at its places
  pub is_firsts : (l : List A) (n : ℕ) (z : A) → length l ≡ n → ((k : ℕ) → k < n → get_or l k z ≡ f k) → l ≡ firsts f n
  is_firsts l n z e h =
      ext_get_or z l (firsts f n) (e ∙ sym (length_firsts n)) (λ k b. h k (omega arith) ∙ sym (get_d_firsts n k z (omega arith)))

  -- the loop that fills a list
  pub record Pouring (l m : List A) (k : ℕ) : Type 0 where
    pub within : k ≤ length l
    pub list : m ≡ sets l 0 (firsts f k)

  pub pouring_start : (l : List A) → Pouring l l 0
  pouring_start l = record { within = omega arith; list = refl }

  pub pouring_length : {l m : List A} {k : ℕ} → Pouring l m k → length m ≡ length l
  pouring_length {l} {m} {k} p = ap length p.list ∙ length-sets l 0 (firsts f k)

  pub pouring_step : {l m : List A} {k : ℕ} {v : A} → Pouring l m k → k < length l → v ≡ f k → Pouring l (set m k v) (k + 1)
  pouring_step {l} {m} {k} {v} p h e =
      let at : k ≡ 0 + length (firsts f k) = omega (arith, length_firsts k) in
      record {
        within = omega arith;
        list = rw (e, p.list, add-one k) (sets_join (firsts f k) (f k ∷ []) l 0 k at);
      }

  pub pouring_end : {l m : List A} {k : ℕ} → Pouring l m k → length l ≤ k → m ≡ firsts f (length l)
  pouring_end {l} {m} {k} p h =
      let e : k ≡ length l = omega (arith, p.within) in
      let n = length_firsts (length l) in
      p.list
      ∙ ap (λ (i : ℕ). sets l 0 (firsts f i)) e
      ∙ sets_all (firsts f (length l)) l (omega (arith, n))
      ∙ ap (λ (s : List A). firsts f (length l) ++ s) (drop_of_length-le l {i = length (firsts f (length l))} (omega (arith, n)))
      ∙ append-nil (firsts f (length l))

  -- the loop that writes the bytes of each
  pub each_firsts : (g : A → List ℕ) (i : ℕ) → each g (firsts f (i + 1)) ≡ each g (firsts f i) ++ g (f i)
  each_firsts g i =
      ap (λ (k : ℕ). each g (firsts f k)) (add-one i)
      ∙ each_append g (firsts f i) (f i ∷ [])
      ∙ ap (λ (s : List ℕ). each g (firsts f i) ++ s) (append-nil (g (f i)))
