-- Theorem: the audit's number of the box is twice its width times its height, exact: `box_twice` is 2 (r - l) (b - t) on whole numbers of 2 ^ -2148, in every box that rule 3 admits.
use Rattle.std.specs.Prelude.{◌≡◌, ◌&&◌, ℕ, ◌+◌, ◌-◌, ◌*◌, ◌≤◌, Float}
use Rattle.std.proofs.Math.Path.{refl, ap}
use Rattle.std.proofs.Common.{◌∙◌, arith}
use Rattle.std.proofs.Math.Bool.{true}
use Rattle.std.specs.Float.Ieee.{lt, le}
use Rattle.base.specs.common.laws.And.{and_left, and_right}
use Rattle.base.specs.common.Binary64.{zero}
use Rattle.base.specs.numbers.Numbers.{large, edge}
use Rattle.root.specs.Root.{magnitude}
use Rattle.root.specs.Bounded.{Bounded}
use Rattle.root.specs.laws.Bounds.{bounded_finite}
use Rattle.plane.specs.points.Rules.{ok_site}
use Rattle.plane.specs.declared.points.Point.{Point}
use Rattle.plane.specs.boxes.Box.{made_of, corners_of}
use Rattle.plane.specs.boxes.Finite.{BoundedBox, box_bounded}
use Rattle.plane.specs.boxes.Rules.{ok_box}
use Rattle.plane.specs.declared.boxes.BoundingBox.{BoundingBox}
use Rattle.plane.specs.given.Finite.{edges_bounded}
use Rattle.plane.specs.given.Given.{edges_of, ok_span, ok_edges}
use Rattle.ring_area.specs.Area.{product_above, product_under, gains, losses}
use Rattle.ring_area.specs.Steps.{gains_of, losses_of}
use Rattle.auditing.specs.limit.Limit.{box_twice}
use Rattle.auditing.specs.total.Total.{apart}
use Rattle.audit_truth.specs.Exact.{plus_units, minus_units, apart_of}
use Rattle.audit_truth.specs.laws.Parts.{above_parts, under_parts, not_over, lt_turned}

-- ---- on whole numbers: each edge is the first less the second
module _ (l l' t t' r r' b b' : ℕ) where
  abbrev over : ℕ
  over = (r + l') * (b + t') + (r' + l) * (b' + t)

  abbrev under : ℕ
  under = (r + l') * (b' + t) + (r' + l) * (b + t')

  -- the four sides add this, and take this off
  added : (tl lb br rt : ℕ) → tl ≡ t * l + t' * l' → lb ≡ l * b' + l' * b → br ≡ b * r + b' * r' → rt ≡ r * t' + r' * t
      → tl + lb + (br + lb + (br + rt + (tl + rt))) ≡ 2 * over
  added tl lb br rt e f g h = omega arith

  taken : (tl lb br rt : ℕ) → tl ≡ t * l' + t' * l → lb ≡ l * b + l' * b' → br ≡ b * r' + b' * r → rt ≡ r * t + r' * t'
      → tl + lb + (br + lb + (br + rt + (tl + rt))) ≡ 2 * under
  taken tl lb br rt e f g h = omega arith

  product : l + r' ≤ l' + r → t + b' ≤ t' + b → 2 * over - 2 * under ≡ 2 * (apart (r + l') (r' + l) * apart (b + t') (b' + t))
  product h k = go (apart (r + l') (r' + l)) (apart (b + t') (b' + t)) (omega arith) (omega arith)
    where
      go : (i j : ℕ) → r + l' ≡ r' + l + i → b + t' ≡ b' + t + j → 2 * over - 2 * under ≡ 2 * (i * j)
      go i j x y = rw (x, y) (plain (r' + l) (b' + t) i j)
        where
          plain : (p q i j : ℕ) → 2 * ((p + i) * (q + j) + p * q) - 2 * ((p + i) * q + p * (q + j)) ≡ 2 * (i * j)
          plain p q i j = omega arith

-- ---- of a box
module _ (b : BoundingBox) where
  abbrev sides : (Float → Float → ℕ) → (Float → Float → ℕ) → ℕ
  sides f g =
      f b.top b.left + g b.left b.bottom
      + (f b.bottom b.right + g b.left b.bottom + (f b.bottom b.right + g b.right b.top + (f b.top b.left + g b.right b.top)))

  gained : gains_of (corners_of b) ≡ sides product_above product_under
  unfolding corners_of gains
  gained = refl

  lost : losses_of (corners_of b) ≡ sides product_under product_above
  unfolding corners_of losses
  lost = refl

  -- the edges' parts
  abbrev of_edges : (ℕ → ℕ → ℕ → ℕ → ℕ → ℕ → ℕ → ℕ → ℕ) → ℕ
  of_edges f =
      f (plus_units b.left) (minus_units b.left) (plus_units b.top) (minus_units b.top) (plus_units b.right) (minus_units b.right) (plus_units b.bottom)
      (minus_units b.bottom)

  gained_is : gains_of (corners_of b) ≡ 2 * of_edges over
  gained_is =
      gained
      ∙ added (plus_units b.left) (minus_units b.left) (plus_units b.top) (minus_units b.top) (plus_units b.right) (minus_units b.right) (plus_units b.bottom)
      (minus_units b.bottom) _ _ _ _ (above_parts b.top b.left) (under_parts b.left b.bottom) (above_parts b.bottom b.right) (under_parts b.right b.top)

  lost_is : losses_of (corners_of b) ≡ 2 * of_edges under
  lost_is =
      lost
      ∙ taken (plus_units b.left) (minus_units b.left) (plus_units b.top) (minus_units b.top) (plus_units b.right) (minus_units b.right) (plus_units b.bottom)
      (minus_units b.bottom) _ _ _ _ (under_parts b.top b.left) (above_parts b.left b.bottom) (under_parts b.bottom b.right) (above_parts b.right b.top)

  pub box_twice_lem : BoundedBox 101 b → lt b.left b.right ≡ true → lt b.top b.bottom ≡ true
      → box_twice b ≡ 2 * (apart_of b.right b.left * apart_of b.bottom b.top)
  unfolding box_twice
  box_twice_lem h across down =
      ap (λ (n : ℕ). n - losses_of (corners_of b)) gained_is
      ∙ ap (λ (n : ℕ). 2 * of_edges over - n) lost_is
      ∙ product (plus_units b.left) (minus_units b.left) (plus_units b.top) (minus_units b.top) (plus_units b.right) (minus_units b.right) (plus_units b.bottom)
      (minus_units b.bottom) (ordered b.left b.right h.left h.right across) (ordered b.top b.bottom h.top h.bottom down)
    where
      ordered : (x y : Float) → Bounded 101 x → Bounded 101 y → lt x y ≡ true → plus_units x + minus_units y ≤ minus_units x + plus_units y
      ordered x y a c e = not_over x y (bounded_finite x 101 a) (bounded_finite y 101 c) (lt_turned x y e)

-- ---- rule 3, whichever way the box is given
pub by_size_lem : (c : Point) (w h : Float) → ok_box c w h ≡ true
    → box_twice (made_of c w h) ≡ 2 * (apart_of (made_of c w h).right (made_of c w h).left * apart_of (made_of c w h).bottom (made_of c w h).top)
unfolding ok_box
by_size_lem c w h e =
    let m = made_of c w h in
    let order = and_right (ok_site c && (lt zero w && le w large) && (lt zero h && le h large)) (lt m.left m.right && lt m.top m.bottom) e in
    box_twice_lem m (box_bounded c w h e) (and_left (lt m.left m.right) (lt m.top m.bottom) order) (and_right (lt m.left m.right) (lt m.top m.bottom) order)

in_order : (x y : Float) → ok_span x y ≡ true → lt x y ≡ true
unfolding ok_span
in_order x y h = and_right (le (magnitude x) edge && le (magnitude y) edge) (lt x y) h

pub by_edges_lem : (l t r b : Float) → ok_edges l t r b ≡ true → box_twice (edges_of l t r b) ≡ 2 * (apart_of r l * apart_of b t)
unfolding ok_edges edges_of
by_edges_lem l t r b e =
    box_twice_lem (edges_of l t r b) (edges_bounded l t r b e) (in_order l r (and_left (ok_span l r) (ok_span t b) e)) (in_order t b (and_right (ok_span l r) (ok_span t b) e))
