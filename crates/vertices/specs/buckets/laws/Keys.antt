-- What is near a point stands between two places on the grid, and so where these are one: a difference that is computed within the tolerance is below 2^-49 (`near_exact`), rounding
-- keeps the order, and so does adding 2^21 (`plus_mono`).
use Rattle.std.specs.Prelude.{◌≡◌, refl, Bool, true, false, not, cond, ◌&&◌, ◌||◌, ℕ, zero, suc, ◌+◌, ◌-◌, ◌*◌, ◌^◌, ◌≤◌, ◌<◌, T, ltb, eqb, ℤ, pos, negsuc, Float}
use Rattle.std.proofs.Common.{sym, ap, ◌∙◌, subst, true≢false, ⊎_elim, arith, le_trans, le_of_eq, le_antisymm, add-le-add, mul-le-mul_right, mul-pos, add-mul, mul_assoc, mul_comm, mul_left_comm, mul_right_comm, mul-one, one-mul, zero-mul, add-zero, lt-ltb, le-ltb, eqb→eq, ltb→lt, lit<, pow_pos}
use Rattle.std.proofs.lemmas.Bool.{false≢true}
use Prim.{tt, Unit}
use Rattle.std.specs.Float.{nan, inf, fin, Format}
use Rattle.std.specs.Float.Ieee.{binary64, up, down, odd, round, sum, add, sub, neg, lt, le, eq, below, of_bits, is_nan}
use Rattle.std.specs.Float.Ieee as I
use Rattle.std.specs.Float.Ieee.Fits.{down_pos, round_is, add-fits}
use Rattle.std.specs.Float.Ieee.Nearest.{div_mono}
use Rattle.std.specs.Float.Ieee.Order.{round_mono}
use Rattle.base.specs.common.Binary64 as B
use Rattle.base.specs.common.Binary64.{◌⊞◌}
use Rattle.base.specs.common.laws.And.{holds, and_left, and_right}
use Rattle.base.specs.common.laws.Decide.{lt_or_ge}
use Rattle.base.specs.common.Pick.{pick}
use Rattle.base.specs.numbers.Numbers.{tolerance, large}
use Rattle.root.specs.Root.{units, Plus}
use Rattle.root.specs.laws.Order.{lt_past, le_not_lt, first_of}
use Rattle.root.specs.laws.OneUnits.{same_units}
use Rattle.plane.specs.declared.points.Point.{Point}
use Rattle.plane.specs.points.Plane.{near_of}
use Rattle.vertices.specs.Add.{near_pt}
use Rattle.vertices.specs.buckets.Buckets.{reach, far_reach, coarse, low_of, mid_of, high_of, narrow_of}

-- ---- a difference that is rounded to at most the tolerance
reach_is : round binary64 false 1 (2 ^ 49) ≡ reach
unfolding round of_bits
reach_is = refl

no_nan : (x : Float) → T (le x tolerance) → T (not (is_nan x))
unfolding le is_nan
no_nan nan h = h
no_nan (inf s) h = tt
no_nan (fin s m e) h = tt

reach_above : T (lt tolerance reach)
unfolding lt of_bits
reach_above = tt

small : (d c : ℕ) → 0 < c → le (round binary64 false d c) tolerance ≡ true → d * 2 ^ 49 < c
small d c C q = ⊎_elim (λ l. l) (λ g. absurd (no (holds q) g)) (lt_or_ge (d * 2 ^ 49) c)
  where
    r : Float
    r = round binary64 false d c

    no : T (le r tolerance) → c ≤ d * 2 ^ 49 → ⊥
    no h g = le_not_lt r tolerance h (lt_past tolerance reach r (no_nan r h) reach_above (not_less (λ k. le_not_lt reach r above k)))
      where
        above : T (le reach r)
        above = subst (λ (x : Float). T (le x r)) reach_is (round_mono binary64 1 (2 ^ 49) d c (pow_pos 49) C (le_trans (le_of_eq (one-mul c)) g))

        not_less : (T (lt r reach) → ⊥) → T (not (lt r reach))
        not_less = go (lt r reach)
          where
            go : (b : Bool) → (T b → ⊥) → T (not b)
            go true k = k tt
            go false k = tt

-- ---- the exact difference, of a / c and b / c with their signs
under : (a b c : ℕ) → b ≤ a → (a - b) * 2 ^ 49 < c → (a * 2 ^ 49 ≤ b * 2 ^ 49 + c) × (b * 2 ^ 49 ≤ a * 2 ^ 49 + c)
under a b c h g = (omega arith, omega arith)

over : (a b c : ℕ) → a ≤ b → (b - a) * 2 ^ 49 < c → (a * 2 ^ 49 ≤ b * 2 ^ 49 + c) × (b * 2 ^ 49 ≤ a * 2 ^ 49 + c)
over a b c h g = (omega arith, omega arith)

both : (a b c : ℕ) → (a + b) * 2 ^ 49 < c → (a * 2 ^ 49 ≤ b * 2 ^ 49 + c) × (b * 2 ^ 49 ≤ a * 2 ^ 49 + c)
both a b c g = (omega arith, omega arith)

tell : (s t : Bool) (a b c k : ℕ) → 0 < c → k ≡ c → le (cond (below t b s a) (sum binary64 s a (not t) b c) (sum binary64 t b (not s) a k)) tolerance ≡ true
    → (a * 2 ^ 49 ≤ b * 2 ^ 49 + c) × (b * 2 ^ 49 ≤ a * 2 ^ 49 + c)
unfolding sum
tell false false a b c k C e h =
    ⊎_elim
    (λ l. under a b c (omega arith) (small (a - b) c C (rw (lt-ltb b a l, le-ltb a b (omega arith)) at h)))
    (λ l. over a b c l (small (b - a) c C (rw (le-ltb b a l, e) at h)))
    (lt_or_ge b a)
tell true true a b c k C e h =
    ⊎_elim
    (λ l. over a b c (omega arith) (small (b - a) c C (rw (lt-ltb a b l) at h)))
    (λ l. ⊎_elim
    (λ g. under a b c l (small (a - b) c C (rw (le-ltb a b l, lt-ltb b a g, e) at h)))
    (λ g. (omega arith, omega arith))
    (lt_or_ge b a))
    (lt_or_ge a b)
tell false true a b c k C e h =
    ⊎_elim
    (λ l. both a b c (small (a + b) c C (rw (lt-ltb 0 (b + a) l) at h)))
    (λ l. (omega arith, omega arith))
    (lt_or_ge 0 (b + a))
tell true false a b c k C e h = let g = small (b + a) c C (rw e at h) in both a b c (omega arith)

-- of two floats
abbrev Close : ℕ → ℤ → ℕ → ℤ → Type 0
Close m e n d = (m * up e * down d * 2 ^ 49 ≤ n * up d * down e * 2 ^ 49 + down e * down d) × (n * up d * down e * 2 ^ 49 ≤ m * up e * down d * 2 ^ 49 + down e * down d)

pub near_exact : (s t : Bool) (m n : ℕ) (e d : ℤ) → near_of (fin s m e) (fin t n d) ≡ true → Close m e n d
unfolding near_of lt sub add neg
near_exact s t m n e d h = tell s t (m * up e * down d) (n * up d * down e) (down e * down d) (down d * down e) (mul-pos (down_pos e) (down_pos d)) (mul_comm (down d) (down e)) h

-- ---- so the magnitudes, with a little added and rounded, stand in order
low_cross : (m n p q : ℕ) → n * q * 2 ^ 49 ≤ m * p * 2 ^ 49 + q * p → (n * 1 + 0 * 1 * p) * (q * 2 ^ 49) ≤ (m * 2 ^ 49 + 1 * 1 * q) * (p * 1)
low_cross m n p q h = le_trans (le_of_eq left) (le_trans h (le_of_eq right))
  where
    left : (n * 1 + 0 * 1 * p) * (q * 2 ^ 49) ≡ n * q * 2 ^ 49
    left = simp (mul-one, zero-mul, add-zero) (sym (mul_assoc n q (2 ^ 49)))

    right : m * p * 2 ^ 49 + q * p ≡ (m * 2 ^ 49 + 1 * 1 * q) * (p * 1)
    right = simp (mul-one, one-mul, add-mul) (ap (λ (x : ℕ). x + q * p) (mul_right_comm m p (2 ^ 49)))

high_cross : (m n p q : ℕ) → m * p * 2 ^ 49 ≤ n * q * 2 ^ 49 + q * p → (m * 2 ^ 49 + 1 * 1 * q) * (p * 2 ^ 48) ≤ (n * 2 ^ 48 + 1 * 1 * p) * (q * 2 ^ 49)
high_cross m n p q h = le_trans (le_of_eq left) (le_trans (go (m * p) (n * q) (q * p) h) (le_of_eq right))
  where
    go : (a b c : ℕ) → a * 2 ^ 49 ≤ b * 2 ^ 49 + c → a * 2 ^ 97 + c * 2 ^ 48 ≤ b * 2 ^ 97 + c * 2 ^ 49
    go a b c h = omega arith

    four : (a b k l : ℕ) → a * k * (b * l) ≡ a * b * (k * l)
    four a b k l = simp (mul_assoc, mul_left_comm)

    left : (m * 2 ^ 49 + 1 * 1 * q) * (p * 2 ^ 48) ≡ m * p * 2 ^ 97 + q * p * 2 ^ 48
    left = simp (one-mul, add-mul) (ap (λ (x : ℕ). x + q * (p * 2 ^ 48)) (four m p (2 ^ 49) (2 ^ 48)) ∙ ap (λ (x : ℕ). m * p * 2 ^ 97 + x) (sym (mul_assoc q p (2 ^ 48))))

    right : n * q * 2 ^ 97 + q * p * 2 ^ 49 ≡ (n * 2 ^ 48 + 1 * 1 * p) * (q * 2 ^ 49)
    right =
        sym (simp (one-mul, add-mul) (ap (λ (x : ℕ). x + p * (q * 2 ^ 49)) (four n q (2 ^ 48) (2 ^ 49))
        ∙ ap (λ (x : ℕ). n * q * 2 ^ 97 + x) (sym (mul_assoc p q (2 ^ 49)) ∙ ap (λ (x : ℕ). x * 2 ^ 49) (mul_comm p q))))

module _ (m n : ℕ) (e d : ℤ) (h : Close m e n d) where
  low_near : T (le (fin false n d ⊞ B.zero) (fin false m e ⊞ reach))
  unfolding add sum of_bits
  low_near =
      round_mono binary64 (n * up d * 1 + 0 * 1 * down d) (down d * 1) (m * up e * 2 ^ 49 + 1 * 1 * down e) (down e * 2 ^ 49) (mul-pos (down_pos d) (lit< tt)) (mul-pos (down_pos e) (pow_pos 49))
      (low_cross (m * up e) (n * up d) (down d) (down e) h.1)

  high_near : T (le (fin false m e ⊞ reach) (fin false n d ⊞ far_reach))
  unfolding add sum of_bits
  high_near =
      round_mono binary64 (m * up e * 2 ^ 49 + 1 * 1 * down e) (down e * 2 ^ 49) (n * up d * 2 ^ 48 + 1 * 1 * down d) (down d * 2 ^ 48)
      (mul-pos (down_pos e) (pow_pos 49)) (mul-pos (down_pos d) (pow_pos 48))
      (high_cross (m * up e) (n * up d) (down d) (down e) h.0)

-- ---- values that are not below 0
abbrev Up : Float → Type 0
Up nan = Unit
Up (inf s) = s ≡ false
Up (fin s m e) = s ≡ false

odd_up : (d q k l : ℕ) → Up (odd d false q k l)
unfolding odd
odd_up d zero k l = refl
odd_up d (suc q) k l = refl

units_up : (q k : ℕ) → Up (I.units binary64 false q k)
unfolding I.units
units_up q k = go (ltb (q * 2 ^ k) (2 ^ 2098))
  where
    go : (t : Bool) → Up (cond t (odd 54 false q k 1074) (inf false))
    go true = odd_up 54 q k 1074
    go false = refl

round_up : (a c : ℕ) → Up (round binary64 false a c)
round_up a c = subst Up (sym (round_is binary64 false a c)) (units_up _ _)

sum_up : (m : ℕ) (e : ℤ) (n : ℕ) (d : ℤ) → Up (fin false m e ⊞ fin false n d)
unfolding add sum
sum_up m e n d = round_up (m * up e * down d + n * up d * down e) (down e * down d)

-- what is at most something finite is finite
below_plus : (x y : Float) → Up x → Plus y → T (le x y) → Plus x
unfolding le lt eq
below_plus nan y u p h = absurd h
below_plus (inf s) nan u p h = absurd p
below_plus (inf s) (inf t) u p h = absurd p
below_plus (inf true) (fin t n d) u p h = absurd (true≢false u)
below_plus (inf false) (fin t n d) u p h = absurd h
below_plus (fin s m e) y u p h = u

-- ---- adding a constant keeps the order
cross : (x y z p q r : ℕ) → x * q ≤ y * p → (x * r + z * p) * (q * r) ≤ (y * r + z * q) * (p * r)
cross x y z p q r h = le_trans (le_of_eq left) (le_trans (add-le-add (mul-le-mul_right (r * r) h) (le_of_eq refl)) (le_of_eq right))
  where
    left : (x * r + z * p) * (q * r) ≡ x * q * (r * r) + z * (p * (q * r))
    left = simp (add-mul, mul_assoc, mul_left_comm)

    right : y * p * (r * r) + z * (p * (q * r)) ≡ (y * r + z * q) * (p * r)
    right = simp (add-mul, mul_assoc, mul_left_comm)

pub plus_mono : (f : Format) (m n k : ℕ) (e d j : ℤ) → m * up e * down d ≤ n * up d * down e
    → T (le (add f (fin false m e) (fin false k j)) (add f (fin false n d) (fin false k j)))
unfolding add sum
plus_mono f m n k e d j h =
    round_mono f (m * up e * down j + k * up j * down e) (down e * down j) (n * up d * down j + k * up j * down d) (down d * down j)
    (mul-pos (down_pos e) (down_pos j)) (mul-pos (down_pos d) (down_pos j)) (cross (m * up e) (n * up d) (k * up j) (down e) (down d) (down j) h)

le_cross : (m n : ℕ) (e d : ℤ) → T (le (fin false m e) (fin false n d)) → m * up e * down d ≤ n * up d * down e
unfolding le lt eq
le_cross m n e d h =
    let a = m * up e * down d in
    let b = n * up d * down e in
    go a b (ltb a b) (eqb a b && true) (ltb→lt a b) (λ t. eqb→eq a b (first_of (eqb a b) true t)) h
  where
    go : (a b : ℕ) (x y : Bool) → (T x → a < b) → (T y → a ≡ b) → T (x || y) → a ≤ b
    go a b true y h g t = omega (arith, h tt)
    go a b false true h g t = omega (arith, g tt)
    go a b false false h g t = absurd t

shifted : (x y : Float) → Plus x → Plus y → T (le x y) → T (le (x ⊞ coarse) (y ⊞ coarse))
unfolding of_bits
shifted nan y p q h = absurd p
shifted (inf s) y p q h = absurd p
shifted (fin true m e) y p q h = absurd (true≢false p)
shifted (fin false m e) nan p q h = absurd q
shifted (fin false m e) (inf t) p q h = absurd q
shifted (fin false m e) (fin true n d) p q h = absurd (true≢false q)
shifted (fin false m e) (fin false n d) p q h = plus_mono binary64 m n 1 e d (pos 21) (le_cross m n e d h)

shifted_up : (x : Float) → Plus x → Up (x ⊞ coarse)
unfolding of_bits
shifted_up nan p = absurd p
shifted_up (inf s) p = absurd p
shifted_up (fin true m e) p = absurd (true≢false p)
shifted_up (fin false m e) p = sum_up m e 1 (pos 21)

-- what is at most 2^100 once the constant is added is finite
large_plus : (x : Float) → Up x → T (le (x ⊞ coarse) large) → Plus x
unfolding le lt eq add of_bits
large_plus nan u h = absurd h
large_plus (inf true) u h = absurd (true≢false u)
large_plus (inf false) u h = absurd h
large_plus (fin s m e) u h = u

large_is : Plus large
unfolding of_bits
large_is = refl

-- ---- in units
units_cross : (m n : ℕ) (e d : ℤ) → m * up e * down d ≤ n * up d * down e → units (fin false m e) ≤ units (fin false n d)
units_cross m n e d h =
    div_mono (m * up e * 2 ^ 1074) (down e) (n * up d * 2 ^ 1074) (down d) (down_pos e) (down_pos d)
    (le_trans (le_of_eq (mul_right_comm (m * up e) (2 ^ 1074) (down d))) (le_trans (mul-le-mul_right (2 ^ 1074) h) (le_of_eq (mul_right_comm (n * up d) (down e) (2 ^ 1074)))))

units_mono : (x y : Float) → Plus x → Plus y → T (le x y) → units x ≤ units y
units_mono nan y p q h = absurd p
units_mono (inf s) y p q h = absurd p
units_mono (fin true m e) y p q h = absurd (true≢false p)
units_mono (fin false m e) nan p q h = absurd q
units_mono (fin false m e) (inf t) p q h = absurd q
units_mono (fin false m e) (fin true n d) p q h = absurd (true≢false q)
units_mono (fin false m e) (fin false n d) p q h = units_cross m n e d (le_cross m n e d h)

equal_le : (x y : Float) → eq x y ≡ true → Plus x → Plus y → units y ≤ units x
unfolding eq
equal_le nan y h p q = absurd p
equal_le (inf s) y h p q = absurd p
equal_le (fin true m e) y h p q = absurd (true≢false p)
equal_le (fin false m e) nan h p q = absurd q
equal_le (fin false m e) (inf t) h p q = absurd q
equal_le (fin false m e) (fin true n d) h p q = absurd (true≢false q)
equal_le (fin false m e) (fin false n d) h p q =
    units_cross n m d e (le_of_eq (sym (eqb→eq (m * up e * down d) (n * up d * down e) (first_of (eqb (m * up e * down d) (n * up d * down e)) _ (holds h)))))

-- ---- what stands between two that are one place on the grid stands there too
between : (x y z : Float) → Up x → Up y → Up z → T (le x y) → T (le y z) → eq (x ⊞ coarse) (z ⊞ coarse) ≡ true → le (z ⊞ coarse) large ≡ true → y ⊞ coarse ≡ x ⊞ coarse
between x y z u v w h g e l =
    let pz = large_plus z w (holds l) in
    let py = below_plus y z v pz g in
    let px = below_plus x y u py h in
    let a = shifted x y px py h in
    let b = shifted y z py pz g in
    let qz = below_plus (z ⊞ coarse) large (shifted_up z pz) large_is (holds l) in
    let qy = below_plus (y ⊞ coarse) (z ⊞ coarse) (shifted_up y py) qz b in
    let qx = below_plus (x ⊞ coarse) (y ⊞ coarse) (shifted_up x px) qy a in
    same_units (add-fits binary64 y coarse) (add-fits binary64 x coarse) qy qx
    (le_antisymm (le_trans (units_mono (y ⊞ coarse) (z ⊞ coarse) qy qz b) (equal_le (x ⊞ coarse) (z ⊞ coarse) e qx qz)) (units_mono (x ⊞ coarse) (y ⊞ coarse) qx qy a))

up_zero : (n : ℕ) (d : ℤ) → Up (fin false n d ⊞ B.zero)
unfolding of_bits
up_zero n d = sum_up n d 0 (pos 0)

up_reach : (n : ℕ) (d : ℤ) → Up (fin false n d ⊞ reach)
unfolding of_bits
up_reach n d = sum_up n d 1 (negsuc 48)

up_twice : (n : ℕ) (d : ℤ) → Up (fin false n d ⊞ far_reach)
unfolding of_bits
up_twice n d = sum_up n d 1 (negsuc 47)

-- what is not finite is near nothing
nan_near : (x : Float) → near_of nan x ≡ true → ⊥
unfolding near_of lt sub add neg le eq
nan_near nan h = false≢true h
nan_near (inf s) h = false≢true h
nan_near (fin s m e) h = false≢true h

near_nan : (s : Bool) (m : ℕ) (e : ℤ) → near_of (fin s m e) nan ≡ true → ⊥
unfolding near_of lt sub add neg le eq
near_nan s m e h = false≢true h

inf_near : (s : Bool) (x : Float) → near_of (inf s) x ≡ true → ⊥
unfolding near_of lt sub add neg le eq of_bits
inf_near true nan h = false≢true h
inf_near false nan h = false≢true h
inf_near true (inf true) h = false≢true h
inf_near true (inf false) h = false≢true h
inf_near false (inf true) h = false≢true h
inf_near false (inf false) h = false≢true h
inf_near true (fin t n d) h = false≢true h
inf_near false (fin t n d) h = false≢true h

near_inf : (s : Bool) (m : ℕ) (e : ℤ) (t : Bool) → near_of (fin s m e) (inf t) ≡ true → ⊥
unfolding near_of lt sub add neg le eq of_bits
near_inf s m e true h = false≢true h
near_inf s m e false h = false≢true h

-- so a float that is near x, and x within the grid, have one place
close_place : (s t : Bool) (m n : ℕ) (e d : ℤ) → narrow_of (fin t n d) ≡ true → Close m e n d → mid_of (fin s m e) ≡ low_of (fin t n d)
unfolding narrow_of
close_place s t m n e d k h =
    let a = eq (low_of (fin t n d)) (high_of (fin t n d)) in
    let b = le (high_of (fin t n d)) large in
    between (fin false n d ⊞ B.zero) (fin false m e ⊞ reach) (fin false n d ⊞ far_reach) (up_zero n d) (up_reach m e) (up_twice n d) (low_near m n e d h) (high_near m n e d h)
    (and_left a b k) (and_right a b k)

pub near_place : (v x : Float) → narrow_of x ≡ true → near_of v x ≡ true → mid_of v ≡ low_of x
near_place nan x k h = absurd (nan_near x h)
near_place (inf s) x k h = absurd (inf_near s x h)
near_place (fin s m e) nan k h = absurd (near_nan s m e h)
near_place (fin s m e) (inf t) k h = absurd (near_inf s m e t h)
near_place (fin s m e) (fin t n d) k h = close_place s t m n e d k (near_exact s t m n e d h)

nan_broad : narrow_of nan ≡ true → ⊥
unfolding narrow_of eq add
nan_broad h = false≢true h

inf_broad : (s : Bool) → narrow_of (inf s) ≡ true → ⊥
unfolding narrow_of le lt eq add of_bits
inf_broad true h = false≢true h
inf_broad false h = false≢true h

-- and so has x itself
pub own_place : (x : Float) → narrow_of x ≡ true → mid_of x ≡ low_of x
own_place nan k = absurd (nan_broad k)
own_place (inf s) k = absurd (inf_broad s k)
own_place (fin s m e) k = let a = m * up e * down e * 2 ^ 49 in let c = down e * down e in close_place s s m m e e k (le_add a c, le_add a c)
  where
    le_add : (a c : ℕ) → a ≤ a + c
    le_add a c = omega arith

-- so what is near p belongs where p does
pub near_places : (v p : Point) → narrow_of p.x ≡ true → narrow_of p.y ≡ true → near_pt v p ≡ true → (mid_of v.x ≡ mid_of p.x) × (mid_of v.y ≡ mid_of p.y)
unfolding near_pt
near_places v p a b q = go (near_of v.x p.x) refl q
  where
    go : (n : Bool) → near_of v.x p.x ≡ n → pick n (λ _. near_of v.y p.y) (λ _. false) ≡ true → (mid_of v.x ≡ mid_of p.x) × (mid_of v.y ≡ mid_of p.y)
    go true e k = (near_place v.x p.x a e ∙ sym (own_place p.x a), near_place v.y p.y b k ∙ sym (own_place p.y b))
    go false e k = absurd (false≢true k)
