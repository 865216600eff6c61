-- Theorem: each crossing of a line lies on the box: one of its coordinates is the box's own float, and the other is between the two edges that bound it.
use Rattle.std.specs.Prelude.{◌≡◌, Bool, ◌&&◌, ◌⊎◌, Float}
use Rattle.std.proofs.Math.Path.{refl}
use Rattle.std.proofs.Math.Bool.{true, false}
use Rattle.std.proofs.Common.{inl}
use Rattle.std.proofs.Math.Logic.{inr}
use Prim.{tt}
use Rattle.std.specs.Float.Ieee.{lt, le}
use Rattle.root.specs.Root.{magnitude}
use Rattle.base.specs.common.laws.And.{and_left, and_right}
use Rattle.base.specs.common.Binary64.{◌⊞◌, ◌⊟◌, ◌⊠◌, ◌⊘◌}
use Rattle.base.specs.numbers.Numbers.{tolerance}
use Rattle.plane.specs.declared.points.Point.{Point}
use Rattle.plane.specs.declared.boxes.BoundingBox.{BoundingBox}
use Rattle.plane.specs.lines.Line.{one_if, two_if, some, or_of, join_of, first_held, settle_of, side_hit, level_hit, upright_hit, line_of}
use Rattle.plane.specs.declared.lines.Crossing.{Crossing}
use Rattle.plane.specs.declared.lines.Crossing.TheVariants.{None, One, Two}

-- x is between a and z
abbrev pub InRange : Float → Float → Float → Type 0
InRange a x z = (le a x ≡ true) × (le x z ≡ true)

-- the point is on an edge: its own coordinate first
abbrev pub OnEdge : BoundingBox → Float → Float → Type 0
OnEdge b x y = (((x ≡ b.left) ⊎ (x ≡ b.right)) × InRange b.top y b.bottom) ⊎ (((y ≡ b.top) ⊎ (y ≡ b.bottom)) × InRange b.left x b.right)

-- so is each point of a crossing
abbrev pub OnBox : BoundingBox → Crossing → Type 0
OnBox b None = Unit
OnBox b (One x y) = OnEdge b x y
OnBox b (Two x y u v) = OnEdge b x y × OnEdge b u v

module _ (b : BoundingBox) where
  -- ---- the parts
  pub one_own : (t : Bool) (x y : Float) → (t ≡ true → OnEdge b x y) → OnBox b (one_if t x y)
  unfolding one_if
  one_own true x y h = h refl
  one_own false x y h = tt

  two_own : (t : Bool) (x y u v : Float) → (t ≡ true → OnBox b (Two x y u v)) → OnBox b (two_if t x y u v)
  unfolding two_if
  two_own true x y u v h = h refl
  two_own false x y u v h = tt

  or_own : (c d : Crossing) → OnBox b c → OnBox b d → OnBox b (or_of c d)
  or_own None d h g = g
  or_own (One x y) d h g = h
  or_own (Two x y u v) d h g = h

  join_own : (c d : Crossing) → OnBox b c → OnBox b d → OnBox b (join_of c d)
  join_own None d h g = g
  join_own (One x y) None h g = h
  join_own (One x y) (One u v) h g = (h, g)
  join_own (One x y) (Two u v w z) h g = g
  join_own (Two x y u v) d h g = h

  held_own : (r s t : Bool) (x y z w : Crossing) → OnBox b x → OnBox b y → OnBox b z → OnBox b w → OnBox b (first_held r x s y t z w)
  unfolding first_held
  held_own true s t x y z w h g f e = h
  held_own false true t x y z w h g f e = g
  held_own false false true x y z w h g f e = f
  held_own false false false x y z w h g f e = e

  -- ---- the sides, each with a guard g before the two tests
  upright : (g : Bool) (x y : Float) → (x ≡ b.left) ⊎ (x ≡ b.right) → OnBox b (one_if (g && (le b.top y && le y b.bottom)) x y)
  upright g x y own =
      let l = le b.top y in
      let r = le y b.bottom in
      one_own (g && (l && r)) x y (λ e. inl (own, (and_left l r (and_right g (l && r) e), and_right l r (and_right g (l && r) e))))

  flat : (g : Bool) (x y : Float) → (y ≡ b.top) ⊎ (y ≡ b.bottom) → OnBox b (one_if (g && (le x b.right && le b.left x)) x y)
  flat g x y own =
      let l = le x b.right in
      let r = le b.left x in
      one_own (g && (l && r)) x y (λ e. inr (own, (and_right l r (and_right g (l && r) e), and_left l r (and_right g (l && r) e))))

  side_own : (x cx c d : Float) → (x ≡ b.left) ⊎ (x ≡ b.right) → OnBox b (side_hit b x cx c d)
  unfolding side_hit
  side_own x cx c d = upright (lt tolerance (magnitude cx)) x (x ⊠ c ⊞ d)

  level_own : (y cy c d : Float) → (y ≡ b.top) ⊎ (y ≡ b.bottom) → OnBox b (level_hit b y cy c d)
  unfolding level_hit
  level_own y cy c d = flat (lt tolerance (magnitude cy)) ((y ⊟ d) ⊘ c) y

  upright_own : (x : Float) → OnBox b (upright_hit b x)
  unfolding upright_hit
  upright_own x =
      let l = le x b.right in
      let r = le b.left x in
      two_own (l && r) x b.top x b.bottom
      (λ e. (inr (inl refl, (and_right l r e, and_left l r e)), inr (inr refl, (and_right l r e, and_left l r e))))

  -- ---- the line
  settle_own : (f g : Crossing) (up : Bool) (u h i : Crossing) → OnBox b f → OnBox b g → OnBox b u → OnBox b h → OnBox b i → OnBox b (settle_of f g up u h i)
  unfolding settle_of
  settle_own f g up u h i of og ou oh oi =
      held_own (some f && some g) up (some h && some i) (join_of f g) u (join_of h i) (join_of (or_of f g) (or_of h i)) (join_own f g of og) ou (join_own h i oh oi)
      (join_own (or_of f g) (or_of h i) (or_own f g of og) (or_own h i oh oi))

  pub line_own : (p q : Point) → OnBox b (line_of b p q)
  unfolding line_of
  line_own p q =
      let cx = q.x ⊟ p.x in
      let cy = q.y ⊟ p.y in
      let c = cy ⊘ cx in
      let d = p.y ⊟ p.x ⊠ c in
      settle_own (side_hit b b.right cx c d) (side_hit b b.left cx c d) (lt tolerance (magnitude cy) && lt (magnitude cx) tolerance) (upright_hit b p.x)
      (level_hit b b.top cy c d) (level_hit b b.bottom cy c d)
      (side_own b.right cx c d (inr refl)) (side_own b.left cx c d (inl refl)) (upright_own p.x)
      (level_own b.top cy c d (inl refl)) (level_own b.bottom cy c d (inr refl))
