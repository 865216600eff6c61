-- How large a ring's sums can be: within 2 ^ 400 a product is at most 2 ^ 2948 units, and a side adds and takes off at most twice that.
use Rattle.std.specs.Prelude.{◌≡◌, Bool, true, false, cond, ℕ, suc, ◌+◌, ◌*◌, ◌^◌, ◌≤◌, ◌<◌, Float, length, get_or}
use Rattle.std.proofs.Common.{sym, ap, ◌∙◌, zero-le, le_trans, le_of_eq, add-le-add, mul_right_comm, suc-mul, one-mul, mul-le-mul_right, mul-le-mul_left, le_of_mul-le-mul_right, div-mul-le_self, arith, lit≤, pow-add}
use mathlib.Core.List.{List, [], ◌∷◌, map}
use Rattle.std.specs.Float.{nan, inf, fin}
use Rattle.std.specs.Float.Ieee.{up, down, unlike}
use Rattle.std.specs.Float.Ieee.Fits.{down_pos}
use Rattle.std.proofs.lemmas.List.{length-map}
use Rattle.root.specs.Bounded.{Bounded}
use Rattle.root.specs.Root.{units}
use Rattle.plane.specs.points.Finite.{BoundedPoint}
use Rattle.plane.specs.points.Flat.{point_at}
use Rattle.plane.specs.declared.points.Point.{Point}
use Rattle.ring_area.specs.Area.{below, product_above, product_under, gain, loss, gains, losses}
use Rattle.ring_area.specs.Steps.{Corners, gains_of, losses_of}

pub units_within : (x : Float) → Bounded 400 x → units x ≤ 2 ^ 1474
units_within nan h = absurd h
units_within (inf s) h = absurd h
units_within (fin s m e) h =
    le_of_mul-le-mul_right
    (le_trans (div-mul-le_self (m * up e * 2 ^ 1074) (down e))
    (le_trans (mul-le-mul_right (2 ^ 1074) h)
    (le_of_eq (mul_right_comm (2 ^ 400) (down e) (2 ^ 1074) ∙ ap (λ (x : ℕ). x * down e) (sym (pow-add 2 400 1074))))))
    (down_pos e)

product_most : (x y : Float) → Bounded 400 x → Bounded 400 y → units x * units y ≤ 2 ^ 2948
product_most x y a b =
    le_trans (mul-le-mul_right (units y) (units_within x a))
    (le_trans (mul-le-mul_left (2 ^ 1474) (units_within y b)) (le_of_eq (sym (pow-add 2 1474 1474))))

either : (s : Bool) (n m : ℕ) → n ≤ 2 ^ 2948 → m ≤ 2 ^ 2948 → cond s n m ≤ 2 ^ 2948
either true n m a b = a
either false n m a b = b

module _ (x y : Float) (a : Bounded 400 x) (b : Bounded 400 y) where
  above_most : product_above x y ≤ 2 ^ 2948
  above_most = either (unlike (below x) (below y)) 0 (units x * units y) zero-le (product_most x y a b)

  under_most : product_under x y ≤ 2 ^ 2948
  under_most = either (unlike (below x) (below y)) (units x * units y) 0 (product_most x y a b) zero-le

twice : 2 ^ 2948 + 2 ^ 2948 ≤ 2 ^ 2949
twice = lit≤ tt

module _ (p q : Point) (a : BoundedPoint 400 p) (b : BoundedPoint 400 q) where
  gain_most : gain p q ≤ 2 ^ 2949
  gain_most = le_trans (add-le-add (above_most p.y q.x a.y b.x) (under_most p.x q.y a.x b.y)) twice

  loss_most : loss p q ≤ 2 ^ 2949
  loss_most = le_trans (add-le-add (under_most p.y q.x a.y b.x) (above_most p.x q.y a.x b.y)) twice

-- ---- a ring
abbrev pub AllBounded : List Point → Type 0
AllBounded [] = Unit {0}
AllBounded (p ∷ r) = BoundedPoint 400 p × AllBounded r

one_side : (n : ℕ) → n ≤ 2 ^ 2949 → n ≤ 1 * 2 ^ 2949
one_side n h = le_trans h (le_of_eq (sym (one-mul (2 ^ 2949))))

next_side : (n m k : ℕ) → n ≤ 2 ^ 2949 → m ≤ suc k * 2 ^ 2949 → n + m ≤ suc (suc k) * 2 ^ 2949
next_side n m k a b = more n m (suc k) (2 ^ 2949) a b
  where
    more : (n m k w : ℕ) → n ≤ w → m ≤ k * w → n + m ≤ suc k * w
    more n m k w a b = let e : suc k * w ≡ k * w + w = suc-mul k w in omega arith

module _ (a : Point) (A : BoundedPoint 400 a) where
  gains_most : (p : Point) (r : List Point) → BoundedPoint 400 p → AllBounded r → gains a p r ≤ suc (length r) * 2 ^ 2949
  unfolding gains
  gains_most p [] P h = one_side (gain p a) (gain_most p a P A)
  gains_most p (q ∷ r) P h = next_side (gain p q) (gains a q r) (length r) (gain_most p q P h.0) (gains_most q r h.0 h.1)

  losses_most : (p : Point) (r : List Point) → BoundedPoint 400 p → AllBounded r → losses a p r ≤ suc (length r) * 2 ^ 2949
  unfolding losses
  losses_most p [] P h = one_side (loss p a) (loss_most p a P A)
  losses_most p (q ∷ r) P h = next_side (loss p q) (losses a q r) (length r) (loss_most p q P h.0) (losses_most q r h.0 h.1)

-- at most 2 ^ 24 corners
few_corners : (n : ℕ) → n ≤ 2 ^ 24 → n * 2 ^ 2949 ≤ 2 ^ 2973
few_corners n h = le_trans (mul-le-mul_right (2 ^ 2949) h) (le_of_eq (sym (pow-add 2 24 2949)))

module _ (r : List Point) (few : length r ≤ 2 ^ 24) where
  pub gained_most : AllBounded r → gains_of r ≤ 2 ^ 2973
  gained_most = go r few
    where
      go : (r : List Point) → length r ≤ 2 ^ 24 → AllBounded r → gains_of r ≤ 2 ^ 2973
      go [] h e = zero-le
      go (p ∷ r) h e = le_trans (gains_most p e.0 p r e.0 e.1) (few_corners (suc (length r)) h)

  pub lost_most : AllBounded r → losses_of r ≤ 2 ^ 2973
  lost_most = go r few
    where
      go : (r : List Point) → length r ≤ 2 ^ 24 → AllBounded r → losses_of r ≤ 2 ^ 2973
      go [] h e = zero-le
      go (p ∷ r) h e = le_trans (losses_most p e.0 p r e.0 e.1) (few_corners (suc (length r)) h)

-- the corners that entries name
module _ (v : List Float) where
  each_of : (cell : List ℕ) → ((k : ℕ) → k < length cell → BoundedPoint 400 (point_at v (get_or cell k 0))) → AllBounded (map (point_at v) cell)
  each_of [] h = tt
  each_of (e ∷ r) h = (h 0 (omega arith), each_of r (λ k l. h (suc k) (omega arith)))

  module _ (cell : List ℕ) (c : Corners v cell) where
    count : length (map (point_at v) cell) ≤ 2 ^ 24
    count = le_trans (le_of_eq (length-map cell (point_at v))) c.few

    pub ring_gains : gains_of (map (point_at v) cell) ≤ 2 ^ 2973
    ring_gains = gained_most (map (point_at v) cell) count (each_of cell c.bounded)

    pub ring_losses : losses_of (map (point_at v) cell) ≤ 2 ^ 2973
    ring_losses = lost_most (map (point_at v) cell) count (each_of cell c.bounded)
