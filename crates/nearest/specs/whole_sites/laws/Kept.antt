-- The tests on a number of 64 bits are those of the definition, and a number that passes them is one of 32 bits.
use Rattle.std.specs.Prelude.{◌≡◌, Bool, true, false, not, T, ℤ, pos, negsuc, FitsSigned, int_lt, Float}
use Rattle.std.proofs.Math.Path.{sym, subst}
use Rattle.std.proofs.Common.{ap, ◌∙◌, lt_of_le_of_lt, lit<, of_z, to_z, ltb-false}
use Rattle.std.specs.Float.Ieee.{binary64, of_int, to_signed, le, lt, eq}
use Rattle.std.specs.Float.{fin}
use Rattle.std.specs.Int.{w32, w64}
use Rattle.std.proofs.lemmas.Int.{to_z-of_z}
use Rattle.base.specs.common.laws.And.{holds}
use Rattle.nearest.specs.whole_sites.Whole.{whole_kept, whole_number}

fits_32 : (v : ℤ) → int_lt v (negsuc 8191) ≡ false → int_lt (pos 8192) v ≡ false → FitsSigned w32 v
fits_32 (pos n) h k = record { sfits = lt_of_le_of_lt (ltb-false 8192 n k) (lit< tt) }
fits_32 (negsuc n) h k = record { sfits = lt_of_le_of_lt (ltb-false 8191 n h) (lit< tt) }

module _ (v : ℤ) (x : Float) (f : FitsSigned w64 v) where
  abbrev back : ℤ
  back = to_z w64 (of_z w64 v)

  same : back ≡ v
  same = to_z-of_z w64 v f

  pub kept_low : int_lt back (negsuc 8191) ≡ true → pos 8193 ≡ whole_kept v x
  unfolding whole_kept
  kept_low h = let k : int_lt v (negsuc 8191) ≡ true = subst (λ z. int_lt z (negsuc 8191) ≡ true) same h in rw k

  module _ (h : int_lt back (negsuc 8191) ≡ false) where
    low : int_lt v (negsuc 8191) ≡ false
    low = subst (λ z. int_lt z (negsuc 8191) ≡ false) same h

    pub kept_high : int_lt (pos 8192) back ≡ true → pos 8193 ≡ whole_kept v x
    unfolding whole_kept
    kept_high k = let g : int_lt (pos 8192) v ≡ true = subst (λ z. int_lt (pos 8192) z ≡ true) same k in rw (low, g)

    module _ (k : int_lt (pos 8192) back ≡ false) where
      high : int_lt (pos 8192) v ≡ false
      high = subst (λ z. int_lt (pos 8192) z ≡ false) same k

      pub cast_fits : FitsSigned w32 back
      cast_fits = subst (FitsSigned w32) (sym same) (fits_32 v low high)

      again : to_z w32 (of_z w32 back) ≡ v
      again = to_z-of_z w32 back cast_fits ∙ same

      pub kept_is : eq (of_int binary64 (to_z w32 (of_z w32 back))) x ≡ true → to_z w32 (of_z w32 back) ≡ whole_kept v x
      unfolding whole_kept
      kept_is e = let g : eq (of_int binary64 v) x ≡ true = subst (λ z. eq (of_int binary64 z) x ≡ true) again e in again ∙ sym (rw (low, high, g))

      pub kept_not : eq (of_int binary64 (to_z w32 (of_z w32 back))) x ≡ false → pos 8193 ≡ whole_kept v x
      unfolding whole_kept
      kept_not e = let g : eq (of_int binary64 v) x ≡ false = subst (λ z. eq (of_int binary64 z) x ≡ false) again e in rw (low, high, g)

-- ---- the tests on the float
turned : (b c : Bool) → not b ≡ c → b ≡ not c
turned true c h = ap not h
turned false c h = ap not h

module _ (x : Float) where
  abbrev least : Float
  least = fin true 1 (pos 63)

  abbrev end : Float
  end = fin false 1 (pos 63)

  pub whole_low : not (le least x) ≡ true → pos 8193 ≡ whole_number x
  unfolding whole_number
  whole_low h = rw (turned (le least x) true h)

  module _ (h : not (le least x) ≡ false) where
    pub whole_high : not (lt x end) ≡ true → pos 8193 ≡ whole_number x
    unfolding whole_number
    whole_high k = rw (turned (le least x) false h, turned (lt x end) true k)

    module _ (k : not (lt x end) ≡ false) where
      pub in_range : T (le least x) × T (lt x end)
      in_range = (holds (turned (le least x) false h), holds (turned (lt x end) false k))

      pub whole_is : whole_kept (to_signed 63 x) x ≡ whole_number x
      unfolding whole_number
      whole_is = sym (rw (turned (le least x) false h, turned (lt x end) false k))
