-- The hull's extension, a direction over its length: where the computed squared length is not 0 each coordinate is at most 2, so the extended point is bounded;
-- where it is 0 the point is not finite.
use Rattle.std.specs.Prelude.{◌≡◌, refl, Bool, true, false, cond, ◌&&◌, ℕ, zero, suc, ◌+◌, ◌-◌, ◌*◌, ◌/◌, ◌%◌, ◌^◌, ◌≤◌, ◌<◌, T, eqb, ltb, leb, ℤ, Float}
use Rattle.std.proofs.Common.{sym, ap, ◌∙◌, subst, true≢false, ⊎_elim, le_trans, le_of_eq, le_of_lt, lt_irrefl, lt_of_lt_of_le, mul-le-mul_right, mul_right_comm, one-mul, mul-pos, zero-lt-suc, le-div_iff_mul-le, div-lt_iff_lt-mul, div-mul-le_self, lt_of_le_of_lt, mul-lt-mul_of_pos_right, arith, T_not, lit<, lit≤, leb→le, pow_mono}
use Rattle.std.specs.Bool.{beq}
use Prim.{tt}
use Rattle.std.specs.Float.{nan, inf, fin, binary64}
use Rattle.std.specs.Float.Ieee.{up, down, size, fits, add, mul, div, lt, unlike, of_bits}
use Rattle.std.specs.Float.Ieee.Digits.{size-lt, size_reaches, size-le}
use Rattle.std.specs.Float.Ieee.Fits.{up_pos, down_pos, add-fits, and_l, and_r}
use Rattle.std.specs.Float.Ieee.Scale.{finite}
use Rattle.base.specs.common.Binary64 as R
use Rattle.base.specs.common.Binary64.{◌⊞◌, ◌⊠◌, ◌⊘◌, one}
use Rattle.base.specs.common.laws.And.{holds, fails}
use Rattle.base.specs.common.laws.Decide.{lt_or_ge}
use Rattle.root.specs.Root.{Plus}
use Rattle.root.specs.Sqrt.{sqrt_of}
use Rattle.root.specs.laws.Tests.{zero_not_above, plus_above}
use Rattle.root.specs.SqrtIsRoot.{sqrt_root}
use Rattle.root.specs.laws.SquareSums.{square_plus, sum_plus, sum_least, sum_comm}
use Rattle.root.specs.laws.Bounds.{weaken, mul_bound, add_bound, bounded_finite}
use Rattle.root.specs.Bounded.{Bounded}
use Rattle.root.specs.laws.Sizes.{AtMost, AtLeast, HeldFraction, power_held, mul_most, mul_least, div_most, bounded_of_most}
use Rattle.root.specs.laws.SqrtSizes.{root_least}

-- ---- how large a value is, by powers of two over 2 ^ 537
pub record SizedAt (t : ℕ) (x : Float) : Type 0 where
  pub least : AtLeast (2 ^ t) 537 x
  pub most : AtMost (2 ^ suc t) 537 x
  pub small : t ≤ 638

sized : (s : Bool) (m : ℕ) (e : ℤ) → Bounded 101 (fin s m e) → down e < m * up e * 2 ^ 537 → (t : ℕ) × SizedAt t (fin s m e)
sized s m e b h =
    let n = m * up e * 2 ^ 537 / down e in
    let some : 1 ≤ n = (le-div_iff_mul-le (down_pos e)).1 (le_trans (le_of_eq (one-mul (down e))) (le_of_lt h)) in
    let z = size n in
    let two : 0 < z = size_some n some in
    let t = z - 1 in
    let reach : 2 ^ t ≤ n = size_reaches n t (omega arith) in
    let below : n < 2 ^ suc t = lt_of_lt_of_le (size-lt n) (pow_mono (omega arith)) in
    let large : n < 2 ^ 639 =
    (div-lt_iff_lt-mul (down_pos e)).1
    (lt_of_le_of_lt (mul-le-mul_right (2 ^ 537) b) (lt_of_le_of_lt (le_of_eq (mul_right_comm (2 ^ 101) (down e) (2 ^ 537))) (mul-lt-mul_of_pos_right (lit< tt) (down_pos e)))) in (
      t,
      record {
        least = le_trans (mul-le-mul_right (down e) reach) (div-mul-le_self (m * up e * 2 ^ 537) (down e));
        most = le_of_lt ((div-lt_iff_lt-mul (down_pos e)).0 below);
        small = narrow z (size-le n 639 large);
      },
    )
  where
    size_some : (n : ℕ) → 1 ≤ n → 0 < size n
    size_some n h = go (size n) (size-lt n)
      where
        go : (z : ℕ) → n < 2 ^ z → 0 < z
        go zero l = absurd (lt_irrefl 1 (lt_of_le_of_lt h l))
        go (suc z) l = zero-lt-suc z

    narrow : (z : ℕ) → z ≤ 639 → z - 1 ≤ 638
    narrow z h = omega arith

-- ---- one coordinate z over the root of s, where s is z's square at least and not 0
module _ (z s : Float) (Z : Bounded 101 z) (P : Plus s) (F : T (fits binary64 s)) (S : (n j : ℕ) → HeldFraction n j → AtLeast n j (z ⊠ z) → AtLeast n j s) (some : AtLeast 1 1074 s) where
  abbrev k : Float
  k = one ⊘ sqrt_of s

  root_of : (t : ℕ) → t ≤ 638 → AtLeast (2 ^ (t + t)) 1074 s → AtLeast (2 ^ t) 537 (sqrt_of s)
  root_of t h = root_least s (sqrt_of s) t (omega arith) P (sqrt_root s F)

  over : (t : ℕ) → t ≤ 638 → AtLeast (2 ^ t) 537 (sqrt_of s) → AtMost (2 ^ 537) (0 + t) k
  unfolding of_bits
  over t h r = div_most 0 0 t 537 (omega arith) (omega arith) one (sqrt_of s) (lit≤ tt) r

  tiny : AtMost 1 537 z → Bounded 1 (z ⊠ k)
  tiny h = bounded_of_most (z ⊠ k) 537 537 1 (lit≤ tt) (mul_most 0 537 537 0 (lit≤ tt) (lit≤ tt) z k h (over 0 (lit≤ tt) (root_of 0 (lit≤ tt) some)))

  large : (t : ℕ) → SizedAt t z → Bounded 1 (z ⊠ k)
  large t h =
      let f = bounded_finite (z ⊠ z) 202 (mul_bound binary64 z z 101 101 (lit≤ tt) Z Z) in
      let q = mul_least t 537 t 537 (omega (arith, h.small)) (omega (arith, h.small)) z z f h.least h.least in
      let r = root_of t h.small (S (2 ^ (t + t)) 1074 (power_held (t + t) 1074 (omega arith) (omega (arith, h.small))) q) in
      bounded_of_most (z ⊠ k) (suc t + 537) (537 + (0 + t)) 1 (omega arith) (mul_most (suc t) 537 537 (0 + t) (omega arith) (omega arith) z k h.most (over t h.small r))

unit_one : (z s : Float) → Bounded 101 z → Plus s → T (fits binary64 s) → ((n j : ℕ) → HeldFraction n j → AtLeast n j (z ⊠ z) → AtLeast n j s)
    → AtLeast 1 1074 s → Bounded 1 (z ⊠ (one ⊘ sqrt_of s))
unit_one nan s Z P F S some = absurd Z
unit_one (inf u) s Z P F S some = absurd Z
unit_one (fin u m e) s Z P F S some =
    ⊎_elim
    (λ h.
    let w = sized u m e Z h in
    large (fin u m e) s Z P F S some w.0 w.1)
    (λ h. tiny (fin u m e) s Z P F S some (le_trans h (le_of_eq (sym (one-mul (down e))))))
    (lt_or_ge (down e) (m * up e * 2 ^ 537))

-- ---- the direction (x, y) over its length
above_units : (s : Float) → T (fits binary64 s) → Plus s → lt R.zero s ≡ true → AtLeast 1 1074 s
unfolding fits
above_units nan f p h = p
above_units (inf u) f p h = p
above_units (fin u zero e) f p h = absurd (zero_not_above u e (holds h))
above_units (fin u (suc m) e) f p h =
    let a = eqb (suc m % 2) 1 in
    let b = ltb (suc m) (2 ^ 53) in
    let d : down e ≤ 2 ^ 1074 = leb→le (down e) (2 ^ 1074) (and_r (a && b) (leb (down e) (2 ^ 1074)) (and_l (a && b && leb (down e) (2 ^ 1074)) (ltb (suc m * up e) (2 ^ 1024 * down e)) f)) in
    le_trans (le_of_eq (one-mul (down e))) (le_trans d (le_trans (le_of_eq (sym (one-mul (2 ^ 1074)))) (mul-le-mul_right (2 ^ 1074) (mul-pos (zero-lt-suc m) (up_pos e)))))

abbrev pub squares : Float → Float → Float
squares x y = x ⊠ x ⊞ y ⊠ y

module _ (x y : Float) (X : Bounded 101 x) (Y : Bounded 101 y) where
  square_bounded : (z : Float) → Bounded 101 z → Bounded 202 (z ⊠ z)
  square_bounded z b = mul_bound binary64 z z 101 101 (lit≤ tt) b b

  pub squares_bounded : Bounded 203 (squares x y)
  squares_bounded = add_bound binary64 (x ⊠ x) (y ⊠ y) 202 (lit≤ tt) (square_bounded x X) (square_bounded y Y)

  sums : T (finite (squares x y))
  sums = bounded_finite (squares x y) 203 squares_bounded

  plus : (z : Float) → Bounded 101 z → Plus (z ⊠ z)
  plus z b = square_plus z (bounded_finite (z ⊠ z) 202 (square_bounded z b))

  squares_plus : Plus (squares x y)
  squares_plus = sum_plus (x ⊠ x) (y ⊠ y) sums (plus x X) (plus y Y)

  fit : T (fits binary64 (squares x y))
  fit = add-fits binary64 (x ⊠ x) (y ⊠ y)

  module _ (h : lt R.zero (squares x y) ≡ true) where
    pub unit_x : Bounded 1 (x ⊠ (one ⊘ sqrt_of (squares x y)))
    unit_x = unit_one x (squares x y) X squares_plus fit (λ n j v. sum_least (x ⊠ x) (y ⊠ y) n j sums (plus x X) (plus y Y) v) (above_units (squares x y) fit squares_plus h)

    pub unit_y : Bounded 1 (y ⊠ (one ⊘ sqrt_of (squares x y)))
    unit_y =
        let e = sum_comm (x ⊠ x) (y ⊠ y) (plus x X) (plus y Y) in
        unit_one y (squares x y) Y squares_plus fit
        (λ n j v a. subst (AtLeast n j) (sym e) (sum_least (y ⊠ y) (x ⊠ x) n j (subst (λ (w : Float). T (finite w)) e sums) (plus y Y) (plus x X) v a))
        (above_units (squares x y) fit squares_plus h)

-- the point extended along it from a circumcenter, by up to 2 ^ 34
pub reach_bounded : (c u far : Float) → Bounded 400 c → Bounded 34 far → Bounded 1 u → Bounded 401 (c ⊞ u ⊠ far)
reach_bounded c u far C H U = add_bound binary64 c (u ⊠ far) 400 (lit≤ tt) C (weaken (u ⊠ far) 35 400 (lit≤ tt) (mul_bound binary64 u far 1 34 (lit≤ tt) U H))

-- ---- where the computed squared length is 0
no_unit : (s : Float) → Plus s → lt R.zero s ≡ false → one ⊘ sqrt_of s ≡ inf false
unfolding sqrt_of div of_bits
no_unit nan p h = absurd p
no_unit (inf u) p h = absurd p
no_unit (fin true m e) p h = absurd (true≢false p)
no_unit (fin false zero e) p h = refl
no_unit (fin false (suc m) e) p h = absurd (T_not (lt R.zero (fin false (suc m) e)) (fails h) (plus_above m e))

either : (b s : Bool) → finite (cond b nan (inf s)) ≡ false
either true s = refl
either false s = refl

times_inf : (x : Float) → finite (x ⊠ inf false) ≡ false
unfolding mul
times_inf nan = refl
times_inf (inf s) = refl
times_inf (fin s m e) = either (eqb m 0) (unlike s false)

endless_times : (a b : Float) → finite a ≡ false → finite (a ⊠ b) ≡ false
unfolding mul
endless_times nan b h = refl
endless_times (inf s) nan h = refl
endless_times (inf s) (inf t) h = refl
endless_times (inf s) (fin t n d) h = either (eqb n 0) (unlike s t)
endless_times (fin s m e) b h = absurd (true≢false h)

plus_endless : (a b : Float) → finite b ≡ false → finite (a ⊞ b) ≡ false
unfolding add
plus_endless nan b h = refl
plus_endless (inf s) nan h = refl
plus_endless (inf s) (inf t) h = go (beq s t)
  where
    go : (z : Bool) → finite (cond z (inf s) nan) ≡ false
    go true = refl
    go false = refl
plus_endless (inf s) (fin t n d) h = refl
plus_endless (fin s m e) nan h = refl
plus_endless (fin s m e) (inf t) h = refl
plus_endless (fin s m e) (fin t n d) h = absurd (true≢false h)

-- ---- the hull's extension from c in the direction of z, which is x or y
module _ (x y : Float) (X : Bounded 101 x) (Y : Bounded 101 y) where
  pub not_reached : lt R.zero (squares x y) ≡ false → (c z far : Float) → finite (c ⊞ z ⊠ (one ⊘ sqrt_of (squares x y)) ⊠ far) ≡ false
  not_reached h c z far =
      let s = squares x y in
      let e : finite (z ⊠ (one ⊘ sqrt_of s)) ≡ false = ap (λ (k : Float). finite (z ⊠ k)) (no_unit s (squares_plus x y X Y) h) ∙ times_inf z in
      plus_endless c (z ⊠ (one ⊘ sqrt_of s) ⊠ far) (endless_times (z ⊠ (one ⊘ sqrt_of s)) far e)
