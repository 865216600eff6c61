-- Coordinates of the grid and of admitted destinations, moved up so that no sign is left: what the theorem on paths asks of them.
use Rattle.std.specs.Prelude.{◌≡◌, Bool, ℕ, zero, suc, ◌+◌, ◌-◌, ◌*◌, ◌^◌, ◌≤◌, ◌<◌, Float, ℤ, pos, negsuc, nat_abs, ◌-ℤ◌, ◌*ℤ◌}
use Rattle.std.proofs.Common.{ap, ◌∙◌, ⊎_elim, le_refl, le_trans, lt_of_le_of_lt, lit<, lit≤, pow_pos, pow_mono, le-leb}
use Rattle.std.proofs.Math.Path.{subst}
use Rattle.std.proofs.Math.Bool.{true, false}
use Rattle.std.proofs.Math.Logic.{inl, inr}
use Rattle.std.proofs.Math.Nat.{mul-le-mul}
use native.Mathlib.Omega.{arith}
use Rattle.std.specs.Float.{nan, inf, fin}
use Rattle.std.specs.Float.Ieee.{up, down}
use Rattle.std.specs.Float.Ieee.Exact.{HasValue}
use Rattle.std.specs.Int.Signed.{le_z}
use Rattle.base.specs.common.laws.Decide.{lt_or_ge}
use Rattle.grid.specs.Plane.{Within}
use Rattle.grid.specs.Raised as raised
use Rattle.grid.specs.laws.Pairs.{Is, is_mul, is_neg, is_same, is_dif}
use Rattle.grid.specs.laws.Same.{up_is, up_low}
use Rattle.nearest_laws.specs.Nearest.{gap, gap_is}
use Rattle.nearest_laws.specs.Ends.{Multiple}
use Rattle.nearest_laws.specs.Admitted.{AdmittedNumber, signed, IsWhole}

-- 2^26 less the 8,192 by which the grid moves its coordinates already
abbrev pub further : ℕ
further = 67100672

-- 1 below 0, else 0
abbrev pick_sign : ℤ → ℕ
pick_sign (pos n) = 0
pick_sign (negsuc n) = 1

room : (d u : ℕ) → d < 8192 → u ≤ 16384 → d * (u + 67100672) ≤ 549822922752
room d u h l = let p : d ≤ 8192 = omega arith in let q : u + 67100672 ≤ 67117056 = omega arith in le_trans (mul-le-mul p q) (lit≤ tt)

module _ (k : ℕ) where
  -- what all is moved by, in units
  abbrev pub moved_by : ℕ
  moved_by = 2 ^ k * 67108864

  module _ (few : 2 ^ k < 8192) where
    pub short : k + k ≤ 1074
    short = ⊎_elim (λ l. omega arith) (λ l. absurd (omega (arith, few, pow_mono {i = 13} {j = k} l))) (lt_or_ge k 13)

    pub shift_low : moved_by < 2 ^ 51
    shift_low = omega (arith, few)

    scaled : (x : Float) (s : Bool) (a : ℕ) → HasValue x s a 1 → HasValue x s (2 ^ k * a) (2 ^ k)
    scaled nan s a h = absurd h
    scaled (inf t) s a h = absurd h
    scaled (fin t m e) s a h = (h.0, go (m * up e) (down e) (2 ^ k) h.1)
      where
        go : (u d n : ℕ) → u * 1 ≡ a * d → u * n ≡ n * a * d
        go u d n q = omega (arith, ap (λ z. n * z) q)

    -- a coordinate of the grid
    coordinate : (x : Float) (s : Bool) (z : ℤ) (u : ℕ) → signed s (nat_abs z) ≡ z → Is u 8192 z → u ≤ 16384 → HasValue x s (nat_abs z) 1 → Multiple k moved_by x (2 ^ k * (u + further))
    coordinate x false (pos m) u _ q l h =
        let e : 2 ^ k * (u + further) ≡ moved_by + 2 ^ k * m = ap (λ w. 2 ^ k * (w + further)) q ∙ sum (2 ^ k) m in
        (omega (arith, few, room (2 ^ k) u few l), inl (omega (arith, e), subst (λ w. HasValue x false w (2 ^ k)) (omega (arith, e)) (scaled x false m h)))
      where
        sum : (d m : ℕ) → d * (8192 + m + 67100672) ≡ d * 67108864 + d * m
        sum d m = omega arith
    coordinate x true (pos zero) u _ q l h =
        let e : 2 ^ k * (u + further) ≡ moved_by = ap (λ w. 2 ^ k * (w + further)) q ∙ sum (2 ^ k) in
        (omega (arith, few, room (2 ^ k) u few l), inr (omega (arith, e), subst (λ w. HasValue x true w (2 ^ k)) (omega (arith, e)) (scaled x true 0 h)))
      where
        sum : (d : ℕ) → d * (8192 + 0 + 67100672) ≡ d * 67108864
        sum d = omega arith
    coordinate x true (pos (suc m)) u g q l h = absurd (apart_signs g)
      where
        apart_signs : negsuc m ≡ pos (suc m) → ⊥
        apart_signs g = let z : ◌≡◌ {A = ℕ} 1 0 = ap (λ (v : ℤ). pick_sign v) g in omega arith
    coordinate x false (negsuc m) u g q l h = absurd (apart_signs g)
      where
        apart_signs : pos (suc m) ≡ negsuc m → ⊥
        apart_signs g = let z : ◌≡◌ {A = ℕ} 0 1 = ap (λ (v : ℤ). pick_sign v) g in omega arith
    coordinate x true (negsuc m) u _ q l h =
        let e : moved_by ≡ 2 ^ k * (u + further) + 2 ^ k * suc m = sum (2 ^ k) u m q in
        (omega (arith, few, room (2 ^ k) u few l), inr (omega (arith, e), subst (λ w. HasValue x true w (2 ^ k)) (omega (arith, e)) (scaled x true (suc m) h)))
      where
        sum : (d u m : ℕ) → 8192 ≡ u + suc m → d * 67108864 ≡ d * (u + 67100672) + d * suc m
        sum d u m q = omega (arith, ap (λ w. d * w) q)

    pub on_grid : {z : ℤ} {x : Float} → Within z → IsWhole z x → Multiple k moved_by x (2 ^ k * (raised.up z + further))
    on_grid {z} {x} w h = coordinate x h.minus z (raised.up z) h.sign (up_is z w) (up_low z w) h.value

  -- ---- a destination
  module _ {x : Float} (a : AdmittedNumber k x) where
    pub few_units : 2 ^ k < 8192
    few_units = omega (arith, a.near)

    abbrev at : Bool → ℕ
    at false = moved_by + a.units
    at true = moved_by - a.units

    pub destined : ℕ
    destined = at a.minus

    small : a.units ≤ moved_by
    small = go (2 ^ k) a.units (pow_pos k) a.near
      where
        go : (d u : ℕ) → 0 < d → u + d * 8192 < 2 ^ 26 → u ≤ d * 67108864
        go d u p h = omega arith

    pub destination : Multiple k moved_by x destined
    unfolding destined
    destination = go a.minus a.value
      where
        go : (s : Bool) → HasValue x s a.units (2 ^ k) → Multiple k moved_by x (at s)
        go false v = (omega (arith, few_units, a.near), inl (omega arith, subst (λ w. HasValue x false w (2 ^ k)) (omega arith) v))
        go true v = (omega (arith, few_units, small), inr (omega arith, subst (λ w. HasValue x true w (2 ^ k)) (omega (arith, small)) v))

    is_placed : Is destined moved_by (signed a.minus a.units)
    unfolding destined
    is_placed = go a.minus
      where
        go : (s : Bool) → Is (at s) moved_by (signed s a.units)
        go false = omega arith
        go true = is_neg moved_by (moved_by - a.units) (pos a.units) (omega (arith, small))

    -- ---- the difference from a coordinate of the grid
    module _ (z : ℤ) (w : Within z) where
      abbrev u : ℕ
      u = 2 ^ k * (raised.up z + further)

      pub apart : gap u destined < 2 ^ 52
      unfolding destined
      apart = go a.minus
        where
          below : (d v : ℕ) → d < 8192 → v ≤ 16384 → (d * (v + 67100672) ≤ d * 67108864 + d * 8192) × (d * 67108864 ≤ d * (v + 67100672) + d * 8192)
          below d v h l = (omega (arith, mul-le-mul (le_refl d) l), omega arith)

          square : (d : ℕ) → d < 67108864 → d * d < 2 ^ 52
          square d l = let p : d ≤ 67108863 = omega arith in lt_of_le_of_lt (mul-le-mul p p) (lit< tt)

          go : (s : Bool) → gap u (at s) < 2 ^ 52
          go false = let b = below (2 ^ k) (raised.up z) few_units (up_low z w) in square (u - at false + (at false - u)) (omega (arith, b.0, b.1, a.near))
          go true = let b = below (2 ^ k) (raised.up z) few_units (up_low z w) in square (u - at true + (at true - u)) (omega (arith, b.0, b.1, a.near, small))

      is_scaled : Is u moved_by (pos (2 ^ k) *ℤ z)
      is_scaled =
          is_same _ _ u moved_by (pos (2 ^ k) *ℤ z) (sum (2 ^ k) (raised.up z))
          (is_mul (2 ^ k) 0 (raised.up z + further) 67108864 (pos (2 ^ k)) z (omega arith) (is_same (raised.up z) 8192 (raised.up z + further) 67108864 z (omega arith) (up_is z w)))
        where
          sum : (d v : ℕ) → d * (v + 67100672) + 0 * 67108864 + d * 67108864 ≡ d * 67108864 + 0 * (v + 67100672) + d * (v + 67100672)
          sum d v = omega arith

      pub is_gap : let d = pos (2 ^ k) *ℤ z -ℤ signed a.minus a.units in Is (gap u destined) 0 (d *ℤ d)
      is_gap =
          let d = pos (2 ^ k) *ℤ z -ℤ signed a.minus a.units in
          let h = is_dif u destined moved_by (pos (2 ^ k) *ℤ z) (signed a.minus a.units) is_scaled is_placed in
          is_same _ _ (gap u destined) 0 (d *ℤ d) (sum u destined (gap_is u destined)) (is_mul u destined u destined d d h h)
        where
          sum : (u w : ℕ) → u * u + w * w ≡ gap u w + 2 * (u * w) → u * u + w * w + 0 ≡ u * w + w * u + gap u w
          sum u w q = omega (arith, q)

-- ---- the order
pub is_ordered : (p q : ℕ) (x y : ℤ) → Is p 0 x → Is q 0 y → p ≤ q → le_z x y ≡ true
is_ordered p q (pos a) (pos b) h k l = le-leb a b (omega arith)
is_ordered p q (pos a) (negsuc b) h k l = absurd (omega arith)
is_ordered p q (negsuc a) y h k l = absurd (omega arith)
