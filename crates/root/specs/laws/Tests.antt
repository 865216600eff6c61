-- What the tests `x != x` and `0.0 <= x` say of a value, and of its root.
use Rattle.std.specs.Prelude.{◌≡◌, refl, Bool, true, false, not, ◌&&◌, ◌||◌, ℕ, zero, suc, ◌*◌, ◌<◌, T, ltb, eqb, ℤ, Float}
use Rattle.std.proofs.Common.{sym, ap, ◌∙◌, subst, true≢false, mul-pos, mul-one, zero-mul, zero-lt-suc, arith, eqb→eq, lt→ltb}
use Rattle.std.proofs.lemmas.Bool.{false≢true}
use Prim.{tt}
use Rattle.std.proofs.Math.Dec.{not_T}
use Rattle.std.specs.Float.{nan, inf, fin, binary64}
use Rattle.std.specs.Float.Ieee.{up, down, odd, fits, is_nan, nan_bits, of_fields, of_bits, to_bits, below, level, le, lt, eq, ne}
use Rattle.std.specs.Float.Ieee.Compare.{differs_from_itself}
use Rattle.std.specs.Float.Ieee.Fits.{up_pos}
use Rattle.std.specs.Float.Ieee.Bits.{is_true, is_false, of_bits-to_bits, nan_bits_is}
use Rattle.base.specs.common.Binary64 as B
use Rattle.root.specs.Root.{Root, RootBits, Plus}

pub no_nan : (x : Float) → ne x x ≡ false → T (not (is_nan x))
unfolding ne eq is_nan
no_nan nan h = absurd (true≢false h)
no_nan (inf s) h = tt
no_nan (fin s m e) h = tt

pub self_nan : (x : Float) → ne x x ≡ true → x ≡ nan
self_nan x h = differs_from_itself x (subst T (sym h) tt)

-- 0.0 <= x is false of a NaN and below 0, and of nothing else
pub up_no_nan : (x : Float) → le B.zero x ≡ true → T (not (is_nan x))
unfolding of_bits of_fields odd le lt eq is_nan
up_no_nan nan h = absurd (false≢true h)
up_no_nan (inf s) h = tt
up_no_nan (fin s m e) h = tt

abbrev at_least : Bool → ℕ → ℕ → Bool
at_least s a b = below false a s b || level false a s b

le_is : (s : Bool) (m : ℕ) (e : ℤ) → le B.zero (fin s m e) ≡ at_least s 0 (m * up e)
unfolding of_bits of_fields odd le lt eq
le_is s m e = ap (λ (a : ℕ). at_least s a (m * up e * 1)) (zero-mul (down e)) ∙ ap (at_least s 0) (mul-one (m * up e))

zero_up : (s : Bool) (e : ℤ) → le B.zero (fin s 0 e) ≡ true
zero_up s e = le_is s 0 e ∙ ap (at_least s 0) (zero-mul (up e)) ∙ go s
  where
    go : (s : Bool) → at_least s 0 0 ≡ true
    go true = refl
    go false = refl

plus_up : (m : ℕ) (e : ℤ) → le B.zero (fin false (suc m) e) ≡ true
plus_up m e = le_is false (suc m) e ∙ go (suc m * up e) (mul-pos (zero-lt-suc m) (up_pos e))
  where
    go : (b : ℕ) → 0 < b → at_least false 0 b ≡ true
    go b h = ap (λ (t : Bool). t || level false 0 false b) (is_true (ltb 0 b) (lt→ltb 0 b h))

pub minus_down : (m : ℕ) (e : ℤ) → le B.zero (fin true (suc m) e) ≡ false
minus_down m e = le_is true (suc m) e ∙ go (suc m * up e) (mul-pos (zero-lt-suc m) (up_pos e))
  where
    go : (b : ℕ) → 0 < b → at_least true 0 b ≡ false
    go b h = ap (λ (t : Bool). t && true) (is_false (eqb 0 b) (not_T (eqb 0 b) (λ t. no b h (eqb→eq 0 b t))))
      where
        no : (b : ℕ) → 0 < b → 0 ≡ b → ⊥
        no b h e = omega arith

pub none_below : (x : Float) → le B.zero x ≡ false → Root x nan
unfolding of_bits of_fields odd le lt eq
none_below nan h = refl
none_below (inf true) h = refl
none_below (inf false) h = absurd (true≢false h)
none_below (fin s zero e) h = absurd (true≢false (sym (zero_up s e) ∙ h))
none_below (fin true (suc m) e) h = refl
none_below (fin false (suc m) e) h = absurd (true≢false (sym (plus_up m e) ∙ h))

pub root_no_nan : (x r : Float) → le B.zero x ≡ true → Root x r → T (not (is_nan r))
unfolding of_bits of_fields odd le lt eq is_nan
root_no_nan nan r h k = absurd (false≢true h)
root_no_nan (inf true) r h k = absurd (false≢true h)
root_no_nan (inf false) r h k = subst (λ (v : Float). T (not (is_nan v))) (sym k) tt
root_no_nan (fin s zero e) r h k = subst (λ (v : Float). T (not (is_nan v))) (sym k) tt
root_no_nan (fin true (suc m) e) r h k = absurd (false≢true (sym (minus_down m e) ∙ h))
root_no_nan (fin false (suc m) e) r h k = go r k.plus
  where
    go : (r : Float) → Plus r → T (not (is_nan r))
    go nan p = p
    go (inf s) p = tt
    go (fin s m e) p = tt

-- what is said of bits, of x itself
pub root_of_bits : (x : Float) (b : ℕ) → T (fits binary64 x) → RootBits (to_bits binary64 x) b → Root x (of_bits binary64 b)
root_of_bits x b f h = subst (λ (v : Float). Root v (of_bits binary64 b)) (of_bits-to_bits binary64 x f) h.value

pub root_no_nan_bits : (x : Float) (b : ℕ) → le B.zero x ≡ true → Root x (of_bits binary64 b) → T (not (nan_bits binary64 b))
root_no_nan_bits x b h k = subst (λ (t : Bool). T (not t)) (sym (nan_bits_is binary64 b)) (root_no_nan x (of_bits binary64 b) h k)

-- 0.0 < x
lt_is : (s : Bool) (m : ℕ) (e : ℤ) → lt B.zero (fin s m e) ≡ below false 0 s (m * up e)
unfolding of_bits of_fields odd lt
lt_is s m e = ap (λ (a : ℕ). below false a s (m * up e * 1)) (zero-mul (down e)) ∙ ap (below false 0 s) (mul-one (m * up e))

pub zero_not_above : (s : Bool) (e : ℤ) → T (lt B.zero (fin s 0 e)) → ⊥
zero_not_above s e t = go s (subst T (lt_is s 0 e ∙ ap (below false 0 s) (zero-mul (up e))) t)
  where
    go : (s : Bool) → T (below false 0 s 0) → ⊥
    go true t = t
    go false t = t

pub plus_above : (m : ℕ) (e : ℤ) → T (lt B.zero (fin false (suc m) e))
plus_above m e = subst T (sym (lt_is false (suc m) e)) (lt→ltb 0 (suc m * up e) (mul-pos (zero-lt-suc m) (up_pos e)))
