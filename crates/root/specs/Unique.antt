-- Theorem: a value has at most one root (`one_root`), and a pattern at most one pattern of a root (`one_pattern`), by the definition alone.
-- Bounds of a root by a value whose square is a bound, and the root of a square.
use Rattle.std.specs.Prelude.{◌≡◌, refl, Bool, true, false, not, ℕ, zero, suc, ◌+◌, ◌*◌, ◌^◌, ◌≤◌, ◌<◌, T, Float}
use Rattle.std.proofs.Common.{sym, ap, ◌∙◌, subst, ⊎_elim, le_of_eq, le_trans, le_antisymm, lt_irrefl, lt_of_lt_of_le, arith}
use Rattle.std.specs.Float.{nan, inf, fin, binary64}
use Rattle.std.specs.Float.Ieee.{fits, is_nan, of_bits, to_bits, nan_bits}
use Rattle.std.specs.Float.Ieee.Bits.{to_bits-of_bits, nan_bits_is}
use Rattle.root.specs.whole_root.Near.{sq}
use Rattle.root.specs.Root.{units, Plus, NearestRoot, Root, RootBits}
use Rattle.root.specs.laws.Squares.{le_or_lt, sq_mono}
use Rattle.root.specs.laws.OneUnits.{same_units, one_nearest}

pub one_root : (x r s : Float) → Root x r → Root x s → r ≡ s
one_root nan r s a b = a ∙ sym b
one_root (inf true) r s a b = a ∙ sym b
one_root (inf false) r s a b = a ∙ sym b
one_root (fin t zero e) r s a b = a ∙ sym b
one_root (fin true (suc m) e) r s a b = a ∙ sym b
one_root (fin false (suc m) e) r s a b = one_nearest a b

pub one_pattern : (b r s : ℕ) → r < 2 ^ 64 → s < 2 ^ 64 → RootBits b r → RootBits b s → r ≡ s
one_pattern b r s f g x y = go (is_nan (of_bits binary64 r)) refl (ap is_nan same)
  where
    same : of_bits binary64 r ≡ of_bits binary64 s
    same = one_root (of_bits binary64 b) (of_bits binary64 r) (of_bits binary64 s) x.value y.value

    is : (n : ℕ) → is_nan (of_bits binary64 n) ≡ true → T (nan_bits binary64 n)
    is n e = subst T (sym (nan_bits_is binary64 n ∙ e)) tt

    isn't : (n : ℕ) → is_nan (of_bits binary64 n) ≡ false → T (not (is_nan (of_bits binary64 n)))
    isn't n e = subst (λ (t : Bool). T (not t)) (sym e) tt

    go : (t : Bool) → is_nan (of_bits binary64 r) ≡ t → is_nan (of_bits binary64 r) ≡ is_nan (of_bits binary64 s) → r ≡ s
    go true e d = x.pattern (is r e) ∙ sym (y.pattern (is s (sym d ∙ e)))
    go false e d = sym (to_bits-of_bits binary64 r f (isn't r e)) ∙ ap (to_bits binary64) same ∙ to_bits-of_bits binary64 s g (isn't s (sym d ∙ e))

-- ---- what callers want: bounds by a value whose square is a bound, and the root of a square

module _ {x r : Float} (a : NearestRoot x r) (v : Float) (f : T (fits binary64 v)) (p : Plus v) where
  pub at_most : units x * 2 ^ 1074 ≤ sq (units v) → units r ≤ units v
  at_most h = ⊎_elim (λ g. g) (λ g. absurd (no (units r) (units v) (units x * 2 ^ 1074) g h (a.below v f p g))) (le_or_lt (units r) (units v))
    where
      no : (r v n : ℕ) → v < r → n ≤ sq v → sq (r + v) < 4 * n → ⊥
      no r v n g h l = lt_irrefl (sq (r + v)) (lt_of_lt_of_le l (le_trans (four h) (sq_mono (omega arith))))
        where
          four : n ≤ sq v → 4 * n ≤ sq (2 * v)
          four h = omega arith

  pub at_least : sq (units v) ≤ units x * 2 ^ 1074 → units v ≤ units r
  at_least h = ⊎_elim (λ g. g) (λ g. absurd (no (units r) (units v) (units x * 2 ^ 1074) g h (a.above v f p g))) (le_or_lt (units v) (units r))
    where
      no : (r v n : ℕ) → r < v → sq v ≤ n → 4 * n < sq (r + v) → ⊥
      no r v n g h l = lt_irrefl (4 * n) (lt_of_lt_of_le l (le_trans (sq_mono (omega arith)) (four h)))
        where
          four : sq v ≤ n → sq (2 * v) ≤ 4 * n
          four h = omega arith

  pub exact : units x * 2 ^ 1074 ≡ sq (units v) → r ≡ v
  exact e = same_units a.held f a.plus p (le_antisymm (at_most (le_of_eq e)) (at_least (le_of_eq (sym e))))
