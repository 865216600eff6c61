-- One number for a place; no form where a place is; and a refusal of a beginning that is longer than any form is that of the whole.
use Rattle.std.specs.Prelude.{◌≡◌, refl, Bool, List, [], ◌∷◌, ◌++◌, ◌≢◌, ℕ, zero, suc, ◌+◌, ◌≤◌, ◌<◌, length, get_or, take, drop}
use Rattle.std.proofs.Common.{sym, ◌∙◌, subst, ⊎_elim, arith, length-append, take-append-drop, take-take, length-take-le}
use Rattle.base.specs.common.laws.Decide.{eq_or_ne, lt_or_ge}
use Rattle.form.specs.Limits.{enough_bytes}
use Rattle.form.specs.Form.{IsForm}
use Rattle.form.specs.Length.{no_form}
use Rattle.form.specs.laws.Place.{one_place}
use Rattle.form.specs.Place.{StartsForm, Place, Expects, SixAt, NumberAt}

module _ {old : Bool} {s : List ℕ} where
  number_one : {k m n : ℕ} → NumberAt old s k m → NumberAt old s k n → m ≡ n
  number_one {k} {m} {n} a b = ⊎_elim (λ e. e) (λ d. absurd (apart d)) (eq_or_ne m n)
    where
      apart : m ≢ n → ⊥
      apart d = let x : SixAt old s k → ⊥ = λ g. d (a.six g ∙ sym (b.six g)) in d (a.other x ∙ sym (b.other x))

  -- of two refusals of the same bytes
  pub same_number : {j k m n : ℕ} → Place old s j → NumberAt old s j m → Place old s k → NumberAt old s k n → m ≡ n
  same_number {j} {k} {m} {n} p a q b =
      number_one a (subst (λ (i : ℕ). NumberAt old s i n) same b)
    where
      same : k ≡ j
      same =
          ⊎_elim (λ l. absurd (one_place old s j k p q l)) (λ l. ⊎_elim (λ h. absurd (one_place old s k j q p h)) (λ h. omega arith) (lt_or_ge k j)) (lt_or_ge j k)

  pub place_refuses : {k : ℕ} → Place old s k → IsForm old s → ⊥
  place_refuses {k} p f = ⊎_elim before ended (lt_or_ge k (length s))
    where
      before : k < length s → ⊥
      before l = p.at l (record { rest = drop (k + 1) s; form = subst (IsForm old) (sym (take-append-drop (k + 1) s)) f })

      ended : length s ≤ k → ⊥
      ended l = p.ended (omega (arith, p.within)) f

get_take : (n k : ℕ) (s : List ℕ) → k < n → get_or (take n s) k 0 ≡ get_or s k 0
get_take zero k s h = absurd (omega arith)
get_take (suc n) k [] h = refl
get_take (suc n) zero (b ∷ s) h = refl
get_take (suc n) (suc k) (b ∷ s) h = get_take n k s (omega arith)

module _ {old : Bool} (s : List ℕ) (k : ℕ) (long : enough_bytes ≤ length s) (p : Place old (take enough_bytes s) k) where
  len : length (take enough_bytes s) ≡ enough_bytes
  len = length-take-le enough_bytes s long

  -- no form has so many bytes, so the place is before the cut
  pub place_early : k < enough_bytes
  place_early = ⊎_elim (λ h. h) (λ h. absurd (late h)) (lt_or_ge k enough_bytes)
    where
      late : enough_bytes ≤ k → ⊥
      late h =
          let t = take k (take enough_bytes s) in
          let b = p.before in
          no_form old (t ++ b.rest) (omega (arith, length-append t b.rest, length-take-le k (take enough_bytes s) p.within, len)) b.form

  pub place_longer : Place old s k
  place_longer =
      let h = place_early in
      record {
        within = omega arith;
        before = subst (StartsForm old) (take-take k enough_bytes s (omega arith)) p.before;
        at = λ l f. p.at (omega (arith, len)) (subst (StartsForm old) (sym (take-take (k + 1) enough_bytes s (omega arith))) f);
        ended = λ e f. absurd (omega arith);
      }

  pub number_longer : {n : ℕ} → NumberAt old (take enough_bytes s) k n → NumberAt old s k n
  number_longer {n} a =
      let g : get_or (take enough_bytes s) k 0 ≡ get_or s k 0 = get_take enough_bytes k s place_early in
      let h = place_early in
      let t : take k (take enough_bytes s) ≡ take k s = take-take k enough_bytes s (omega arith) in
      record {
        six = λ x. a.six (g ∙ x.0, subst (Expects old) (sym t) x.1);
        other = λ x. a.other (λ y. x (sym g ∙ y.0, subst (Expects old) t y.1));
      }
