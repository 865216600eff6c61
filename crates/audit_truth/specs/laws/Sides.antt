-- The two sides of the test in floats against the exact ones: one coordinate of the left side, and how large the right side can be.
use Rattle.std.proofs.Common.{sym, ap, subst, le_trans, le_of_eq, add-le-add, add-mul, lit≤}
use Prim.{tt}
use Rattle.std.specs.Prelude.{ℕ, suc, ◌+◌, ◌*◌, ◌^◌, ◌≤◌, T, Float}
use Rattle.std.specs.Float.{nan, inf, fin, binary64}
use Rattle.std.specs.Float.Ieee.Fits.{add-fits, sub-fits, mul-fits}
use Rattle.std.specs.Float.Ieee.Scale.{finite}
use Rattle.base.specs.common.Binary64.{◌⊞◌, ◌⊟◌, ◌⊠◌}
use Rattle.root.specs.Bounded.{Bounded}
use Rattle.root.specs.Root.{units, magnitude}
use Rattle.root.specs.laws.Bounds.{bounded_finite, add_bound, sub_bound, mul_bound}
use Rattle.plane.specs.boxes.Box.{width_of, height_of}
use Rattle.plane.specs.declared.boxes.BoundingBox.{BoundingBox}
use Rattle.auditing.specs.nearer.Nearer.{tolerance_of, far_of}
use Rattle.audit_truth.specs.Exact.{plus_units, minus_units, apart_of, across_and_down}
use Rattle.audit_truth.specs.Held.{HeldWithin, HeldBox}
use Rattle.audit_truth.specs.laws.BothSides.{twice_rounded, right_most}
use Rattle.audit_truth.specs.laws.Close.{Close, close_apart}
use Rattle.audit_truth.specs.laws.Errors.{sum_off, sum_size, CoordinateOff, coordinate_off}
use Rattle.audit_truth.specs.laws.Far.{tolerance_fits, tolerance_bounded, far_times}
use Rattle.audit_truth.specs.laws.Magnitudes.{parts_apart, rounded_most, rounded_times, sum_times, product_times, magnitude_units, magnitude_fits}
use Rattle.audit_truth.specs.laws.Operations.{Rounded, RoundedProduct, add_rounded, sub_rounded, mul_rounded}

pub held_finite : {k : ℕ} {x : Float} → HeldWithin k x → T (finite x)
held_finite {k} {x} h = bounded_finite x k h.bounded

-- ---- operations on such values
module _ (k : ℕ) (x y : Float) (h : HeldWithin k x) (g : HeldWithin k y) where
  pub sub_held : suc k ≤ 1023 → HeldWithin (suc k) (x ⊟ y)
  sub_held r = record { held = sub-fits binary64 x y; bounded = sub_bound binary64 x y k r h.bounded g.bounded }

  pub add_held : suc k ≤ 1023 → HeldWithin (suc k) (x ⊞ y)
  add_held r = record { held = add-fits binary64 x y; bounded = add_bound binary64 x y k r h.bounded g.bounded }

  pub sub_near : suc k ≤ 1023 → Rounded (x ⊟ y) (plus_units x + minus_units y) (minus_units x + plus_units y)
  sub_near r = sub_rounded x y h.held g.held (held_finite h) (held_finite g) (held_finite (sub_held r))

  pub add_near : suc k ≤ 1023 → Rounded (x ⊞ y) (plus_units x + plus_units y) (minus_units x + minus_units y)
  add_near r = add_rounded x y h.held g.held (held_finite h) (held_finite g) (held_finite (add_held r))

module _ (i j : ℕ) (x y : Float) (h : HeldWithin i x) (g : HeldWithin j y) (r : i + j ≤ 1023) where
  pub mul_held : HeldWithin (i + j) (x ⊠ y)
  mul_held = record { held = mul-fits binary64 x y; bounded = mul_bound binary64 x y i j r h.bounded g.bounded }

  pub mul_near : RoundedProduct (x ⊠ y) x y
  mul_near = mul_rounded x y h.held g.held (held_finite h) (held_finite g) (held_finite mul_held)

-- ---- one coordinate of the left side: (o - s) ((v - s) + (v - o))
abbrev pub bisector_part : Float → Float → Float → Float
bisector_part v s o = (o ⊟ s) ⊠ ((v ⊟ s) ⊞ (v ⊟ o))

module _ (v s o : Float) (hv : HeldWithin 400 v) (hs : HeldWithin 400 s) (ho : HeldWithin 400 o) where
  sum_held : HeldWithin 402 ((v ⊟ s) ⊞ (v ⊟ o))
  sum_held = add_held 401 (v ⊟ s) (v ⊟ o) (sub_held 400 v s hv hs (lit≤ tt)) (sub_held 400 v o hv ho (lit≤ tt)) (lit≤ tt)

  pub coordinate_held : HeldWithin 803 (bisector_part v s o)
  coordinate_held = mul_held 401 402 (o ⊟ s) ((v ⊟ s) ⊞ (v ⊟ o)) (sub_held 400 o s ho hs (lit≤ tt)) sum_held (lit≤ tt)

  pub coordinate : CoordinateOff (plus_units (bisector_part v s o)) (minus_units (bisector_part v s o)) (plus_units o + minus_units s) (minus_units o + plus_units s)
      (plus_units v + minus_units s + (plus_units v + minus_units o)) (minus_units v + plus_units s + (minus_units v + plus_units o)) (apart_of o s) (apart_of v s + apart_of v o) (2 ^ 1074)
  coordinate =
      let d = sub_near 400 o s ho hs (lit≤ tt) in
      let a = sub_near 400 v s hv hs (lit≤ tt) in
      let b = sub_near 400 v o hv ho (lit≤ tt) in
      let c = add_near 401 (v ⊟ s) (v ⊟ o) (sub_held 400 v s hv hs (lit≤ tt)) (sub_held 400 v o hv ho (lit≤ tt)) (lit≤ tt) in
      let z = mul_near 401 402 (o ⊟ s) ((v ⊟ s) ⊞ (v ⊟ o)) (sub_held 400 o s ho hs (lit≤ tt)) sum_held (lit≤ tt) in
      let t = sum_off (plus_units (v ⊟ s)) (minus_units (v ⊟ s)) (plus_units v + minus_units s) (minus_units v + plus_units s) a.off (plus_units (v ⊟ o)) (minus_units (v ⊟ o))
      (plus_units v + minus_units o) (minus_units v + plus_units o) b.off (plus_units ((v ⊟ s) ⊞ (v ⊟ o))) (minus_units ((v ⊟ s) ⊞ (v ⊟ o))) c.off a.near a.few b.near b.few
      c.near c.few in
      coordinate_off (plus_units (o ⊟ s)) (minus_units (o ⊟ s)) _ _ d.off (apart_of o s) (plus_units ((v ⊟ s) ⊞ (v ⊟ o))) (minus_units ((v ⊟ s) ⊞ (v ⊟ o))) _ _
      (apart_of v s + apart_of v o) _ _ (2 ^ 1074) z.off (units (o ⊟ s)) (units ((v ⊟ s) ⊞ (v ⊟ o))) d.near d.few (close_apart _ _) t (own ((v ⊟ s) ⊞ (v ⊟ o))) (rounded_most d)
      (le_trans (le_of_eq (sym (parts_apart ((v ⊟ s) ⊞ (v ⊟ o))))) (sum_size t)) z.near z.few
    where
      own : (x : Float) → Close (plus_units x) (minus_units x) (units x)
      own x = subst (Close (plus_units x) (minus_units x)) (parts_apart x) (close_apart (plus_units x) (minus_units x))

-- ---- the right side
both_times : (a b c d k l : ℕ) → a * k ≤ c * l → b * k ≤ d * l → (a + b) * k ≤ (c + d) * l
both_times a b c d k l h g = le_trans (le_of_eq (add-mul a b k)) (le_trans (add-le-add h g) (le_of_eq (sym (add-mul c d l))))

pub magnitude_held : {k : ℕ} {x : Float} → HeldWithin k x → HeldWithin k (magnitude x)
magnitude_held {k} {x} h = record { held = magnitude_fits x h.held; bounded = go x h.bounded }
  where
    go : (x : Float) → Bounded k x → Bounded k (magnitude x)
    go nan b = b
    go (inf s) b = b
    go (fin s m e) b = b

-- a tolerance that is at most 2 ^ -bits of w, but for what is cut off and two roundings
pub record FarBy (bits w : ℕ) (far : Float) : Type 0 where
  pub held : HeldWithin 103 far
  pub size : ℕ
  pub most : units far * 2 ^ bits ≤ size + 2 ^ bits
  pub near : size * (16 * 2 ^ 53) ≤ w * (16 * 2 ^ 53 + 33)

module _ (b : BoundingBox) (h : HeldBox b) where
  wide : HeldWithin 102 (b.right ⊟ b.left)
  wide = sub_held 101 b.right b.left h.right h.left (lit≤ tt)

  high : HeldWithin 102 (b.bottom ⊟ b.top)
  high = sub_held 101 b.bottom b.top h.bottom h.top (lit≤ tt)

  size_held : HeldWithin 103 ((b.right ⊟ b.left) ⊞ (b.bottom ⊟ b.top))
  size_held = add_held 102 (b.right ⊟ b.left) (b.bottom ⊟ b.top) wide high (lit≤ tt)

  size_most : units ((b.right ⊟ b.left) ⊞ (b.bottom ⊟ b.top)) * (16 * 2 ^ 53) ≤ across_and_down b * (16 * 2 ^ 53 + 33)
  size_most =
      twice_rounded _ (units (b.right ⊟ b.left) + units (b.bottom ⊟ b.top)) (across_and_down b)
      (sum_times (b.right ⊟ b.left) (b.bottom ⊟ b.top) wide.held high.held (held_finite wide) (held_finite high) (held_finite size_held))
      (both_times (units (b.right ⊟ b.left)) (units (b.bottom ⊟ b.top)) (apart_of b.right b.left) (apart_of b.bottom b.top) (2 ^ 53) (2 ^ 53 + 1)
      (rounded_times (sub_near 101 b.right b.left h.right h.left (lit≤ tt))) (rounded_times (sub_near 101 b.bottom b.top h.bottom h.top (lit≤ tt))))

  module _ (bits : ℕ) (B : bits ≤ 52) where
    far_held : HeldWithin 103 (far_of b bits)
    unfolding far_of width_of height_of
    far_held = mul_held 103 0 ((b.right ⊟ b.left) ⊞ (b.bottom ⊟ b.top)) (tolerance_of bits) size_held (record { held = tolerance_fits bits; bounded = tolerance_bounded bits B }) (lit≤ tt)

    far_units : units (far_of b bits) * 2 ^ bits ≤ units ((b.right ⊟ b.left) ⊞ (b.bottom ⊟ b.top)) + 2 ^ bits
    unfolding far_of width_of height_of
    far_units = far_times ((b.right ⊟ b.left) ⊞ (b.bottom ⊟ b.top)) bits B size_held.held (held_finite size_held) (held_finite far_held)

    pub box_far : FarBy bits (across_and_down b) (far_of b bits)
    box_far = record { held = far_held; size = units ((b.right ⊟ b.left) ⊞ (b.bottom ⊟ b.top)); most = far_units; near = size_most }

-- by the way from s to o, x and y apart
module _ {bits w : ℕ} {far : Float} (F : FarBy bits w far) (ox sx oy sy : Float) (h₁ : HeldWithin 400 ox) (h₂ : HeldWithin 400 sx) (h₃ : HeldWithin 400 oy) (h₄ : HeldWithin 400 sy) where
  first : HeldWithin 401 (magnitude (ox ⊟ sx))
  first = magnitude_held (sub_held 400 ox sx h₁ h₂ (lit≤ tt))

  second : HeldWithin 401 (magnitude (oy ⊟ sy))
  second = magnitude_held (sub_held 400 oy sy h₃ h₄ (lit≤ tt))

  way_held : HeldWithin 402 (magnitude (ox ⊟ sx) ⊞ magnitude (oy ⊟ sy))
  way_held = add_held 401 (magnitude (ox ⊟ sx)) (magnitude (oy ⊟ sy)) first second (lit≤ tt)

  way_most : units (magnitude (ox ⊟ sx) ⊞ magnitude (oy ⊟ sy)) * (16 * 2 ^ 53) ≤ (apart_of ox sx + apart_of oy sy) * (16 * 2 ^ 53 + 33)
  way_most =
      twice_rounded _ (units (magnitude (ox ⊟ sx)) + units (magnitude (oy ⊟ sy))) (apart_of ox sx + apart_of oy sy)
      (sum_times (magnitude (ox ⊟ sx)) (magnitude (oy ⊟ sy)) first.held second.held (held_finite first) (held_finite second) (held_finite way_held))
      (both_times (units (magnitude (ox ⊟ sx))) (units (magnitude (oy ⊟ sy))) (apart_of ox sx) (apart_of oy sy) (2 ^ 53) (2 ^ 53 + 1) (one ox sx h₁ h₂) (one oy sy h₃ h₄))
    where
      one : (x y : Float) → HeldWithin 400 x → HeldWithin 400 y → units (magnitude (x ⊟ y)) * 2 ^ 53 ≤ apart_of x y * (2 ^ 53 + 1)
      one x y h g = le_trans (le_of_eq (ap (λ (i : ℕ). i * 2 ^ 53) (magnitude_units (x ⊟ y)))) (rounded_times (sub_near 400 x y h g (lit≤ tt)))

  pub right_held : HeldWithin 505 (far ⊠ (magnitude (ox ⊟ sx) ⊞ magnitude (oy ⊟ sy)))
  right_held = mul_held 103 402 far (magnitude (ox ⊟ sx) ⊞ magnitude (oy ⊟ sy)) F.held way_held (lit≤ tt)

  pub right : units (far ⊠ (magnitude (ox ⊟ sx) ⊞ magnitude (oy ⊟ sy))) * 2 ^ 1074 * 2 ^ bits * (16 * 2 ^ 53)
      ≤ w * (apart_of ox sx + apart_of oy sy) * (16 * 2 ^ 53 + 84) + 18 * 2 ^ 53 * (2 ^ bits * (apart_of ox sx + apart_of oy sy)) + 8 * 2 ^ 53 * (2 ^ bits * 2 ^ 1074)
  right =
      right_most _ (units far) (units (magnitude (ox ⊟ sx) ⊞ magnitude (oy ⊟ sy))) _ (w) (apart_of ox sx + apart_of oy sy) (2 ^ bits) (2 ^ 1074)
      (product_times (mul_near 103 402 far (magnitude (ox ⊟ sx) ⊞ magnitude (oy ⊟ sy)) F.held way_held (lit≤ tt))) F.most F.near way_most
