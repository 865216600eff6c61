-- A part of a list the other way round, entry by entry, and by std's `reverse`.
use Rattle.std.specs.Prelude.{◌≡◌, refl, List, [], ◌∷◌, ◌++◌, ℕ, suc, ◌+◌, ◌-◌, ◌≤◌, ◌<◌, take}
use Rattle.std.proofs.Common.{sym, ◌∙◌, ⊎_elim}
use Rattle.std.proofs.Math.Path.{ap}
use mathlib.Core.List.{reverse, reverse-cons}
use native.Mathlib.Omega.{arith}
use Rattle.std.proofs.Math.ListN.{length, get_or, drop, length-append, length-take, length-drop, get_or-append}
use Rattle.std.proofs.Math.Seq.{get_or-take, get_or-drop, get_or-append-add}
use Rattle.base.specs.common.laws.Decide.{lt_or_ge}
use Rattle.cutting.specs.cuts.Written.{backward}
use Rattle.cutting_writer.specs.turn.Turned.{turned_round}

-- the same as std's
pub backward_is : {A : Type 0} (l : List A) → backward l ≡ reverse l
backward_is [] = refl
backward_is (x ∷ l) = ap (λ r. r ++ x ∷ []) (backward_is l) ∙ sym (reverse-cons x l)

-- ---- entry by entry

pub length_backward : {A : Type 0} (l : List A) → length (backward l) ≡ length l
length_backward [] = refl
length_backward (x ∷ l) = omega (arith, length-append (backward l) (x ∷ []), length_backward l)

pub get_d_backward : {A : Type 0} (l : List A) (k : ℕ) (d : A) → k < length l → get_or (backward l) k d ≡ get_or l (length l - 1 - k) d
get_d_backward [] k d h = absurd (omega arith)
get_d_backward (x ∷ l) k d h =
    ⊎_elim
    (λ p. let q : suc (length l) - 1 - k ≡ suc (length l - 1 - k) = omega arith in
    get_or-append (backward l) (x ∷ []) d k (rw (length_backward l) p) ∙ get_d_backward l k d p ∙ ap (λ (n : ℕ). get_or (x ∷ l) n d) (sym q))
    (λ p. let q : k ≡ length (backward l) + 0 = omega (arith, length_backward l) in
    let z : suc (length l) - 1 - k ≡ 0 = omega arith in
    ap (λ (n : ℕ). get_or (backward l ++ x ∷ []) n d) q ∙ get_or-append-add (backward l) (x ∷ []) 0 d ∙ ap (λ (n : ℕ). get_or (x ∷ l) n d) (sym z))
    (lt_or_ge k (length l))

module _ {A : Type 0} (from to : ℕ) (l : List A) (d : A) (low : from ≤ to) (high : to ≤ length l) where
  long_first : length (take from l) ≡ from
  long_first = omega (arith, length-take from l)

  middle : List A
  middle = take (to - from) (drop from l)

  long_middle : length middle ≡ to - from
  unfolding middle
  long_middle = omega (arith, length-take (to - from) (drop from l), length-drop from l)

  pub turned_length : length (turned_round from to l) ≡ length l
  unfolding middle
  turned_length =
      omega (
        arith,
        length-append (take from l) (backward middle ++ drop to l),
        length-append (backward middle) (drop to l),
        length_backward middle,
        long_first,
        long_middle,
        length-drop to l,
      )

  pub before_part : (k : ℕ) → k < from → get_or (turned_round from to l) k d ≡ get_or l k d
  before_part k h = get_or-append (take from l) _ d k (rw long_first h) ∙ get_or-take from l k d h

  pub in_part : (k : ℕ) → from ≤ k → k < to → get_or (turned_round from to l) k d ≡ get_or l (from + to - 1 - k) d
  unfolding middle
  in_part k h p =
      let q : k ≡ length (take from l) + (k - from) = omega (arith, long_first) in
      let r : k - from < length (backward middle) = omega (arith, length_backward middle, long_middle) in
      let z : from + (length middle - 1 - (k - from)) ≡ from + to - 1 - k = omega (arith, long_middle) in
      ap (λ (n : ℕ). get_or (turned_round from to l) n d) q
      ∙ get_or-append-add (take from l) (backward middle ++ drop to l) (k - from) d
      ∙ get_or-append (backward middle) (drop to l) d (k - from) r
      ∙ get_d_backward middle (k - from) d (rw (length_backward middle) at r)
      ∙ get_or-take (to - from) (drop from l) (length middle - 1 - (k - from)) d (omega (arith, long_middle))
      ∙ get_or-drop from l (length middle - 1 - (k - from)) d
      ∙ ap (λ (n : ℕ). get_or l n d) z

  pub after_part : (k : ℕ) → to ≤ k → get_or (turned_round from to l) k d ≡ get_or l k d
  unfolding middle
  after_part k h =
      let q : k ≡ length (take from l) + (length (backward middle) + (k - to)) = omega (arith, long_first, length_backward middle, long_middle) in
      let z : to + (k - to) ≡ k = omega arith in
      ap (λ (n : ℕ). get_or (turned_round from to l) n d) q
      ∙ get_or-append-add (take from l) (backward middle ++ drop to l) (length (backward middle) + (k - to)) d
      ∙ get_or-append-add (backward middle) (drop to l) (k - to) d
      ∙ get_or-drop to l (k - to) d
      ∙ ap (λ (n : ℕ). get_or l n d) z
