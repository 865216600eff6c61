-- The share as the code writes it: the tests on the float, and the point over the first of ten digits.
use Rattle.std.specs.Prelude.{◌≡◌, ℕ, zero, suc, ◌+◌, ◌<◌, ◌≤◌, Bool, true, false, not, T, List, [], ◌∷◌, ◌++◌, length, drop, pos, nat_lt, slice_set, refl, Float}
use Rattle.std.proofs.Common.{ap, ◌∙◌, arith, set-set}
use Rattle.std.specs.Float.{fin}
use Rattle.std.specs.Float.Ieee.{lt, le, neg, to_unsigned}
use Rattle.std.proofs.lemmas.List.Edits.{sets}
use borrow.Author.Tests.{not-true, not-false, lt-ltb, le-ltb, ltb-true}
use Rattle.base.specs.common.Binary64.{◌⊠◌}
use Rattle.base.specs.common.Pick.{pick}
use Rattle.base.specs.common.laws.And.{holds}
use Rattle.printing.specs.parts.Text.{ascii, decimal}
use Rattle.printing.specs.parts.laws.Decimal.{is_decimal}
use Rattle.octets.specs.Wrote.{Wrote}
use Rattle.audit.specs.text.Share.{most, billionths, fraction, pointed, billion, share_text}

-- ---- the point

-- two stores at two places
apart : (l : List ℕ) (i j v x : ℕ) → i < j → slice_set (slice_set l j x) i v ≡ slice_set (slice_set l i v) j x
apart [] i j v x h = refl
apart (a ∷ l) i zero v x h = absurd (omega arith)
apart (a ∷ l) zero (suc j) v x h = refl
apart (a ∷ l) (suc i) (suc j) v x h = ap (λ (r : List ℕ). a ∷ r) (apart l i j v x (omega arith))

-- a store before a run of stores
set_before : (s l : List ℕ) (i j v : ℕ) → i < j → slice_set (sets l j s) i v ≡ sets (slice_set l i v) j s
set_before [] l i j v h = refl
set_before (x ∷ s) l i j v h = set_before s (slice_set l j x) i (suc j) v (omega arith) ∙ ap (λ (r : List ℕ). sets r (suc j) s) (apart l i j v x h)

over_first : {l m : List ℕ} {at r : ℕ} (s : List ℕ) (v : ℕ) → 0 < length s → Wrote l m at r s → Wrote l (slice_set m at v) at r (v ∷ drop 1 s)
over_first [] v h w = absurd (omega arith)
over_first {l} {m} {at} (c ∷ s) v h w = record {
  list = ap (λ (z : List ℕ). slice_set z at v) w.list ∙ set_before s (slice_set l at c) at (suc at) v (omega arith) ∙ ap (λ (z : List ℕ). sets z (suc at) s) (set-set l at c v);
  place = w.place;
}

module _ (f : ℕ) (h : f < 1000000000) where
  pub ten_some : 0 < length (decimal (1000000000 + f))
  ten_some = (is_decimal (1000000000 + f) (omega arith)).some

  as_long : (s : List ℕ) → 0 < length s → length (ascii "." ++ drop 1 s) ≡ length s
  as_long [] g = absurd (omega arith)
  as_long (c ∷ s) g = refl

  pub fraction_long : length (fraction f) ≡ length (decimal (1000000000 + f))
  unfolding fraction
  fraction_long = as_long (decimal (1000000000 + f)) ten_some

  pub fraction_put : {l m : List ℕ} {at r : ℕ} → Wrote l m at r (decimal (1000000000 + f)) → Wrote l (slice_set m at 46) at r (fraction f)
  unfolding fraction
  fraction_put w = over_first (decimal (1000000000 + f)) 46 ten_some w

-- ---- billionths
module _ (v : Float) where
  abbrev above : Bool
  above = lt (fin true 1 (pos 0)) v

  abbrev below : Bool
  below = lt v (fin false 1 (pos 64))

  pub not_above : not above ≡ true → most ≡ billionths v
  unfolding billionths
  not_above h = rw (not-true above h)

  module _ (h : not above ≡ false) where
    pub not_below : not below ≡ true → most ≡ billionths v
    unfolding billionths
    not_below k = rw (not-false above h, not-true below k)

    module _ (k : not below ≡ false) where
      pub in_range : T above × T below
      in_range = (holds (not-false above h), holds (not-false below k))

      pub below_most : {n : ℕ} → n ≡ to_unsigned 64 v → n < most → n ≡ billionths v
      unfolding billionths
      below_most {n} e l = rw (not-false above h, not-false below k, ← e, lt-ltb n most l)

      pub at_most : {n : ℕ} → n ≡ to_unsigned 64 v → most ≤ n → most ≡ billionths v
      unfolding billionths
      at_most {n} e l = rw (not-false above h, not-false below k, ← e, le-ltb n most l)

picked_most : (t : Bool) (a : ℕ) → (t ≡ true → a ≤ most) → pick t (λ _. a) (λ _. most) ≤ most
picked_most true a h = h refl
picked_most false a h = omega arith

pub billionths_most : (v : Float) → billionths v ≤ most
unfolding billionths
billionths_most v = picked_most (above v) _ (λ _. picked_most (below v) _ (λ _. picked_most (nat_lt (to_unsigned 64 v) most) _ (λ e. cut (to_unsigned 64 v) e)))
  where
    cut : (n : ℕ) → nat_lt n most ≡ true → n ≤ most
    cut n e = omega (arith, ltb-true n most e)

-- ---- the sign
module _ (x : Float) where
  pub share_below : le (x ⊠ billion) (fin true 1 (pos 0)) ≡ true → share_text x ≡ ascii "-" ++ pointed (billionths (neg (x ⊠ billion)))
  unfolding share_text
  share_below h = rw h

  pub share_above : le (x ⊠ billion) (fin true 1 (pos 0)) ≡ false → share_text x ≡ pointed (billionths (x ⊠ billion))
  unfolding share_text
  share_above h = rw h
