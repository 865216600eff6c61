-- Theorem: where the bisector's test in floats takes nothing, the exact squared distances keep the tolerance, but for the roundings: |v - s|^2 - |v - o|^2 is at most
-- (2 ^ -bits (across + down) + 2 ^ -49 r) (|ox - sx| + |oy - sy|), and 2 ^ -1073 (1 + |ox - sx| + |oy - sy|) for what underflows. Here r is at least across + down, and in each
-- coordinate v is at most r from s and from o.
--
-- The argument, with k = 2 ^ -53. A sum or a difference of floats is (1 + e) times the exact one with |e| at most k, since what is below the normal range is exact; a product is
-- that, or off by half a unit of 2 ^ -1074. So a coordinate of the left side, (o - s) ((v - s) + (v - o)), is off by 4 k of |o - s| (|v - s| + |v - o|) and half a unit, and their
-- sum by 5 k and a unit: 10 k of r (|ox - sx| + |oy - sy|). The right side is at most (1 + 5 k) times the exact one: two roundings in each of its two sums, one in the product, and
-- none in the product with 2 ^ -bits but for less than a unit of what is cut off; so 5 k of the same at most. Together that is 15 k, and what is of second order is far below the
-- k that is left to 16 k = 2 ^ -49.
use Rattle.std.specs.Prelude.{◌≡◌, false, ℕ, ◌+◌, ◌*◌, ◌^◌, ◌≤◌, Float}
use Rattle.std.proofs.Common.{ap, mul-le-mul_left, lit≤, pow_pos}
use Prim.{tt}
use native.Mathlib.Omega.{arith}
use Rattle.base.specs.common.Binary64.{◌⊞◌, ◌⊟◌, ◌⊠◌}
use Rattle.root.specs.Root.{magnitude, units}
use Rattle.plane.specs.declared.points.Point.{Point}
use Rattle.plane.specs.declared.boxes.BoundingBox.{BoundingBox}
use Rattle.auditing.specs.nearer.Nearer.{beyond}
use Rattle.auditing.specs.total.Total.{apart}
use Rattle.audit_truth.specs.Exact.{plus_units, minus_units, apart_of, across_and_down, along_axes, exact_square}
use Rattle.audit_truth.specs.Held.{HeldWithin, HeldPoint}
use Rattle.audit_truth.specs.laws.BothSides.{left_off, together}
use Rattle.audit_truth.specs.laws.Close.{squares_apart}
use Rattle.audit_truth.specs.laws.Magnitudes.{parts_apart}
use Rattle.audit_truth.specs.laws.Parts.{not_over}
use Rattle.audit_truth.specs.laws.Sides.{FarBy, held_finite, add_held, add_near, bisector_part, coordinate_held, coordinate, right_held, right}

-- p is at most r from v in each coordinate
pub record WithinReach (r : ℕ) (v p : Point) : Type 0 where
  pub x : apart_of v.x p.x ≤ r
  pub y : apart_of v.y p.y ≤ r

-- that bound on |v - s|^2 - |v - o|^2, all times 2 ^ 49 2 ^ bits, with a tolerance of 2 ^ -bits w; and of the box
abbrev pub NotNearerBy : ℕ → ℕ → ℕ → Point → Point → Point → Type 0
NotNearerBy w bits r v s o =
    exact_square v s * (2 ^ 49 * 2 ^ bits) ≤ (exact_square v o + 2 * (along_axes o s + 2 ^ 1074)) * (2 ^ 49 * 2 ^ bits) + (2 ^ 49 * w + 2 ^ bits * r) * along_axes o s

abbrev pub NotNearer : BoundingBox → ℕ → ℕ → Point → Point → Point → Type 0
NotNearer b bits r v s o = NotNearerBy (across_and_down b) bits r v s o

module _ {bits w : ℕ} {far : Float} (F : FarBy bits w far) (v s o : Point) (hv : HeldPoint v) (hs : HeldPoint s) (ho : HeldPoint o) (r : ℕ)
    (wide : w ≤ r) (ws : WithinReach r v s) (wo : WithinReach r v o) where
  abbrev cx : Float
  cx = bisector_part v.x s.x o.x

  abbrev cy : Float
  cy = bisector_part v.y s.y o.y

  abbrev limit : Float
  limit = far ⊠ (magnitude (o.x ⊟ s.x) ⊞ magnitude (o.y ⊟ s.y))

  hx : HeldWithin 803 cx
  hx = coordinate_held v.x s.x o.x hv.x hs.x ho.x

  hy : HeldWithin 803 cy
  hy = coordinate_held v.y s.y o.y hv.y hs.y ho.y

  pub near_exact : beyond far v s o ≡ false → NotNearerBy w bits r v s o
  unfolding beyond
  near_exact e =
      let X = coordinate v.x s.x o.x hv.x hs.x ho.x in
      let Y = coordinate v.y s.y o.y hv.y hs.y ho.y in
      let C = add_near 803 cx cy hx hy (lit≤ tt) in
      let hr = right_held F o.x s.x o.y s.y ho.x hs.x ho.y hs.y in
      let order = not_over (cx ⊞ cy) limit (held_finite (add_held 803 cx cy hx hy (lit≤ tt))) (held_finite hr) e in
      let L = left_off (plus_units cx) (minus_units cx) _ _ _ (plus_units cy) (minus_units cy) _ _ _ (plus_units (cx ⊞ cy)) (minus_units (cx ⊞ cy)) C.off (units limit) (2 ^ 1074) X.off Y.off
      X.near X.few X.most Y.near Y.few Y.most C.near C.few
      (less (plus_units (cx ⊞ cy)) (minus_units (cx ⊞ cy)) (plus_units limit) (minus_units limit) _ (parts_apart limit) order) in
      moved _ _ _ _ _ _ _ _ _ (2 ^ 49 * 2 ^ bits) _ (squares_apart (plus_units v.x) (minus_units v.x) (plus_units s.x) (minus_units s.x) (plus_units o.x) (minus_units o.x))
      (squares_apart (plus_units v.y) (minus_units v.y) (plus_units s.y) (minus_units s.y) (plus_units o.y) (minus_units o.y))
      (together _ _ (units limit) _ (2 ^ 1074) (2 ^ bits) w (along_axes o s) r L
      (right F o.x s.x o.y s.y ho.x hs.x ho.y hs.y)
      (within (apart_of o.x s.x) _ _ (apart_of o.y s.y) _ _ r ws.x wo.x ws.y wo.y) wide (pow_pos bits))
    where
      less : (c c' p m u : ℕ) → apart p m ≡ u → c + m ≤ c' + p → c ≤ c' + u
      less c c' p m u h k = omega arith

      within : (d a c d' a' c' n : ℕ) → a ≤ n → c ≤ n → a' ≤ n → c' ≤ n → d * (a + c) + d' * (a' + c') ≤ 2 * (n * (d + d'))
      within d a c d' a' c' n h k l m =
          let p : d * (a + c) ≤ d * (2 * n) = mul-le-mul_left d (omega arith) in
          let q : d' * (a' + c') ≤ d' * (2 * n) = mul-le-mul_left d' (omega arith) in
          omega arith

      moved : (a b a' b' l l' k k' x i c : ℕ) → a + l' ≡ b + l → a' + k' ≡ b' + k → (l + k) * i ≤ (l' + k' + x) * i + c → (a + a') * i ≤ (b + b' + x) * i + c
      moved a b a' b' l l' k k' x i c e f h =
          let g : (a + l' + (a' + k')) * i ≡ (b + l + (b' + k)) * i = ap (λ (j : ℕ). j * i) (sum e f) in
          omega arith
        where
          sum : a + l' ≡ b + l → a' + k' ≡ b' + k → a + l' + (a' + k') ≡ b + l + (b' + k)
          sum e f = omega arith
