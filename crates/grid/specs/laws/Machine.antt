-- Coordinates as the machine holds them: a number is read back from its bits, tests of order, and the sum that moves a coordinate up.
use Rattle.std.specs.Prelude.{◌≡◌, refl, Bool, true, false, cond, ◌&&◌, ℕ, ◌≤◌, T, ℤ, pos, negsuc, nat_abs, ◌+ℤ◌}
use Rattle.std.proofs.Common.{sym, ap, ◌∙◌, subst, arith, lt_of_le_of_lt, lit<, Fits, SFits, of_z, to_z, ltb-true, ltb-false, leb-true, le-leb}
use Rattle.std.specs.Int.Signed.{non_neg, lt_z, le_z}
use Rattle.std.specs.Int.{w32, w64}
use Rattle.std.proofs.lemmas.Int.{to_z-of_z}
use Rattle.base.specs.common.Decide.{Says}
use Rattle.grid.specs.Plane.{Within}
use Rattle.grid.specs.Raised.{up}
use Rattle.grid.specs.laws.Same.{up_pos, up_low}

-- ---- two coordinates
pub both : (b d : Bool) (P Q : Type 0) → Says b P → Says d Q → Says (b && d) (P × Q)
both true true P Q h k = (h, k)
both true false P Q h k = λ z. k z.1
both false d P Q h k = λ z. h z.0

-- ---- the order
pub differ : ◌≡◌ {A = Bool} true false → ⊥
differ e = let z : ◌≡◌ {A = ℕ} 0 1 = ap (λ t. cond t 0 1) e in omega arith

not_less : (a b : ℤ) → lt_z a b ≡ false → le_z b a ≡ true
not_less (pos a) (pos b) h = le-leb b a (ltb-false a b h)
not_less (pos a) (negsuc b) h = refl
not_less (negsuc a) (pos b) h = absurd (differ h)
not_less (negsuc a) (negsuc b) h = le-leb a b (ltb-false b a h)

less : (a b : ℤ) → lt_z a b ≡ true → le_z b a ≡ true → ⊥
less (pos a) (pos b) h k = omega (arith, ltb-true a b h, leb-true b a k)
less (pos a) (negsuc b) h k = differ (sym h)
less (negsuc a) (pos b) h k = differ (sym k)
less (negsuc a) (negsuc b) h k = omega (arith, ltb-true b a h, leb-true a b k)

module _ (v : ℤ) (f : SFits w32 v) where
  -- what the machine reads back
  abbrev back : ℤ
  back = to_z w32 (of_z w32 v)

  same : back ≡ v
  same = to_z-of_z w32 v f

  pub too_low : lt_z back (negsuc 8191) ≡ true → Within v → ⊥
  too_low h w = less v (negsuc 8191) (subst (λ z. lt_z z (negsuc 8191) ≡ true) same h) w.above

  pub too_high : lt_z (pos 8192) back ≡ true → Within v → ⊥
  too_high h w = less (pos 8192) v (subst (λ z. lt_z (pos 8192) z ≡ true) same h) w.below

  pub between : lt_z back (negsuc 8191) ≡ false → lt_z (pos 8192) back ≡ false → Within v
  between h k = record {
    above = not_less v (negsuc 8191) (subst (λ z. lt_z z (negsuc 8191) ≡ false) same h);
    below = not_less (pos 8192) v (subst (λ z. lt_z (pos 8192) z ≡ false) same k);
  }

  -- ---- moved up
  module _ (w : Within v) where
    sum : back +ℤ pos 8192 ≡ pos (up v)
    sum = ap (λ z. z +ℤ pos 8192) same ∙ up_pos v w

    pub sum_fits : SFits w32 (back +ℤ pos 8192)
    sum_fits = subst (λ z. SFits w32 z) (sym sum) (record { sfits = lt_of_le_of_lt (up_low v w) (lit< tt) })

    read_back : to_z w32 (of_z w32 (back +ℤ pos 8192)) ≡ pos (up v)
    read_back = to_z-of_z w32 (back +ℤ pos 8192) sum_fits ∙ sum

    pub cast_fits : T (non_neg (to_z w32 (of_z w32 (back +ℤ pos 8192)))) × Fits w64 (nat_abs (to_z w32 (of_z w32 (back +ℤ pos 8192))))
    cast_fits = subst (λ z. T (non_neg z) × Fits w64 (nat_abs z)) (sym read_back) (tt, record { fits = lt_of_le_of_lt (up_low v w) (lit< tt) })

    pub cast_is : (nat_abs (to_z w32 (of_z w32 (back +ℤ pos 8192))) ≡ up v) × (nat_abs (to_z w32 (of_z w32 (back +ℤ pos 8192))) ≤ 16384)
    cast_is = subst (λ z. (nat_abs z ≡ up v) × (nat_abs z ≤ 16384)) (sym read_back) (refl, up_low v w)
