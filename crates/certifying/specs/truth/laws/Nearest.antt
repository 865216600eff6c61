-- Kind 4 on whole numbers: the tolerance is 2 ^ -bits of the reach, and the bound of audit_truth is one on places.
use Rattle.std.specs.Prelude.{◌≡◌, Bool, true, false, ℕ, suc, ◌+◌, ◌-◌, ◌*◌, ◌/◌, ◌^◌, ◌≤◌, ◌<◌, Float}
use Rattle.std.proofs.Common.{⊎_elim, mul-le-mul_left, mul-pos, lit≤, pow_pos}
use Prim.{tt}
use Rattle.std.proofs.Math.Nat.{lt-div-mul-add}
use native.Mathlib.Omega.{arith}
use Rattle.std.specs.Float.Ieee.{lt}
use Rattle.root.specs.whole_root.Near.{sq}
use Rattle.base.specs.common.laws.Decide.{lt_or_ge}
use Rattle.base.specs.common.Binary64.{◌⊠◌}
use Rattle.base.specs.common.Pick.{pick}
use Rattle.root.specs.Root.{units}
use Rattle.root.specs.laws.Bounds.{weaken}
use Rattle.plane.specs.declared.points.Point.{Point}
use Rattle.plane.specs.declared.boxes.BoundingBox.{BoundingBox}
use Rattle.auditing.specs.nearer.Nearer.{tolerance_of, beyond}
use Rattle.auditing.specs.total.Total.{apart}
use Rattle.certifying.specs.cover.Certified.{Near}
use Rattle.certifying.specs.cover.Squares.{square_apart, squared, to_near}
use Rattle.audit_truth.specs.Exact.{plus_units, minus_units, apart_of, along_axes, exact_square}
use Rattle.audit_truth.specs.Held.{HeldWithin, HeldPoint, HeldBox}
use Rattle.audit_truth.specs.Near.{WithinReach, near_exact}
use Rattle.audit_truth.specs.laws.Far.{tolerance_fits, tolerance_bounded, far_times}
use Rattle.audit_truth.specs.laws.Sides.{FarBy, held_finite, magnitude_held, mul_held}
use Rattle.certifying.specs.call.Verdict.{larger_of, reach_of, certify_far}
use Rattle.certifying.specs.truth.Places.{lift, raised_units, lifted_place, slack_of}
use Rattle.certifying.specs.truth.laws.Equal.{minus_most}

-- ---- the tolerance
larger_held : (x y : Float) → HeldWithin 101 x → HeldWithin 101 y → HeldWithin 101 (larger_of x y)
unfolding larger_of
larger_held x y h g = go (lt x y)
  where
    go : (t : Bool) → HeldWithin 101 (pick t (λ _. y) (λ _. x))
    go true = g
    go false = h

reach_held : (b : BoundingBox) → HeldBox b → HeldWithin 101 (reach_of b)
unfolding reach_of
reach_held b h =
    larger_held _ _ (larger_held _ _ (magnitude_held h.left) (magnitude_held h.top)) (larger_held _ _ (magnitude_held h.right) (magnitude_held h.bottom))

reach_far : (b : BoundingBox) → HeldBox b → (bits : ℕ) → bits ≤ 52 → FarBy bits (units (reach_of b)) (certify_far b bits)
unfolding certify_far
reach_far b h bits B =
    let r = reach_held b h in
    let m = mul_held 101 0 (reach_of b) (tolerance_of bits) r (record { held = tolerance_fits bits; bounded = tolerance_bounded bits B }) (lit≤ tt) in
    record {
      held = record { held = m.held; bounded = weaken (reach_of b ⊠ tolerance_of bits) 101 103 (lit≤ tt) m.bounded };
      size = units (reach_of b);
      most = far_times (reach_of b) bits B r.held (held_finite r) (held_finite m);
      near = more (units (reach_of b));
    }
  where
    more : (u : ℕ) → u * (16 * 2 ^ 53) ≤ u * (16 * 2 ^ 53 + 33)
    more u = omega arith

-- ---- the bound, whole
whole_bound : (a b d k : ℕ) → 0 < k → a * k ≤ b * k + d → a ≤ b + d / k
whole_bound a b d k pos h =
    ⊎_elim (λ g. absurd (over a b d k (d / k) (lt-div-mul-add pos) (mul-le-mul_left k g) h)) (λ g. g) (lt_or_ge (b + d / k) a)
  where
    over : (a b d k q : ℕ) → d < q * k + k → k * suc (b + q) ≤ k * a → a * k ≤ b * k + d → ⊥
    over a b d k q f g h = omega arith

-- ---- distances
module _ (c : ℕ) where
  times_less : (x y : ℕ) → c * x - c * y ≡ c * (x - y)
  times_less x y =
      ⊎_elim (λ h. let q : y ≡ x + (y - x) = omega arith in let z : x - y ≡ 0 = omega arith in less c x y (y - x) (x - y) q z)
      (λ h. let q : x ≡ y + (x - y) = omega arith in more c x y (x - y) q) (lt_or_ge x y)
    where
      less : (c x y e d : ℕ) → y ≡ x + e → d ≡ 0 → c * x - c * y ≡ c * d
      less c x y e d q z = rw (q, z) (omega arith)

      more : (c x y e : ℕ) → x ≡ y + e → c * x - c * y ≡ c * e
      more c x y e q = rw q (omega arith)

  gap_is : (x y : Float) → HeldWithin 400 x → HeldWithin 400 y → square_apart (c * raised_units x) (c * raised_units y) ≡ c * c * sq (apart_of x y)
  unfolding raised_units
  gap_is x y h g =
      rw (times_less (raised_units x) (raised_units y), times_less (raised_units y) (raised_units x))
      (square c (raised_units x - raised_units y) (raised_units y - raised_units x) (apart_of x y) (apart_is (plus_units x) (minus_units x) (plus_units y) (minus_units y) lift (minus_most h) (minus_most g)))
    where
      apart_is : (a i b j l : ℕ) → i ≤ l → j ≤ l → a + l - i - (b + l - j) + (b + l - j - (a + l - i)) ≡ apart (a + j) (i + b)
      apart_is a i b j l p q = omega arith

      square : (c u w d : ℕ) → u + w ≡ d → (c * u + c * w) * (c * u + c * w) ≡ c * c * (d * d)
      square c u w d e = rw (← e) (omega arith)

  squared_is : (p q : Point) → HeldPoint p → HeldPoint q → squared (lifted_place c p) (lifted_place c q) ≡ c * c * exact_square p q
  squared_is p q h g = rw (gap_is p.x q.x h.x g.x, gap_is p.y q.y h.y g.y) (plain (c * c) (sq (apart_of p.x q.x)) (sq (apart_of p.y q.y)))
    where
      plain : (k a b : ℕ) → k * a + k * b ≡ k * (a + b)
      plain k a b = omega arith

  -- ---- a corner that is not beyond
  pub near_place : (b : BoundingBox) → HeldBox b → (bits : ℕ) → bits ≤ 52 → (v s o : Point) → HeldPoint v → HeldPoint s → HeldPoint o → (r : ℕ) → units (reach_of b) ≤ r → WithinReach r v s
      → WithinReach r v o
      → beyond (certify_far b bits) v s o ≡ false → Near (lifted_place c s) (lifted_place c o) (c * c * slack_of (units (reach_of b)) bits r s o) (lifted_place c v)
  near_place b box bits B v s o hv hs ho r wide ws wo e =
      let k = 2 ^ 49 * 2 ^ bits in
      let n = near_exact (reach_far b box bits B) v s o hv hs ho r wide ws wo e in
      let w =
      whole_bound (exact_square v s) (exact_square v o + 2 * (along_axes o s + 2 ^ 1074)) ((2 ^ 49 * units (reach_of b) + 2 ^ bits * r) * along_axes o s) k (mul-pos (pow_pos 49) (pow_pos bits)) n in
      to_near (lifted_place c s) (lifted_place c o) (c * c * slack_of (units (reach_of b)) bits r s o) (lifted_place c v)
      (rw (squared_is v s hv hs, squared_is v o hv ho) (scaled (c * c) (exact_square v s) (exact_square v o) (2 * (along_axes o s + 2 ^ 1074)) _ (mul-le-mul_left (c * c) w)))
    where
      scaled : (k a b x y : ℕ) → k * a ≤ k * (b + x + y) → k * a ≤ k * b + k * (x + y)
      scaled k a b x y h = omega arith
