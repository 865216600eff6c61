-- Where a line crosses the box.
use Rattle.std.specs.Prelude.{Bool, true, false, ◌&&◌, Float}
use Rattle.std.specs.Float.Ieee.{lt, le}
use Rattle.root.specs.Root.{magnitude}
use Rattle.base.specs.common.Pick.{pick}
use Rattle.base.specs.common.Binary64.{◌⊞◌, ◌⊟◌, ◌⊠◌, ◌⊘◌}
use Rattle.base.specs.numbers.Numbers.{tolerance}
use Rattle.plane.specs.declared.points.Point.{Point}
use Rattle.plane.specs.declared.boxes.BoundingBox.{BoundingBox}
use Rattle.plane.specs.declared.lines.Crossing.{Crossing}
use Rattle.plane.specs.declared.lines.Crossing.TheVariants.{None, One, Two}

-- the points if the test holds
unfoldable pub one_if : Bool → Float → Float → Crossing
one_if t x y = pick t (λ _. One x y) (λ _. None)

unfoldable pub two_if : Bool → Float → Float → Float → Float → Crossing
two_if t x y u v = pick t (λ _. Two x y u v) (λ _. None)

abbrev pub some : Crossing → Bool
some None = false
some (One x y) = true
some (Two x y u v) = true

-- Option's `or`
abbrev pub or_of : Crossing → Crossing → Crossing
or_of None b = b
or_of (One x y) b = One x y
or_of (Two x y u v) b = Two x y u v

-- the pair of two optional points
abbrev pub after_one : Float → Float → Crossing → Crossing
after_one x y None = One x y
after_one x y (One u v) = Two x y u v
after_one x y (Two u v w z) = Two u v w z

abbrev pub join_of : Crossing → Crossing → Crossing
join_of None b = b
join_of (One x y) b = after_one x y b
join_of (Two x y u v) b = Two x y u v

-- the point of the line y = x c + d on the side at x, right or left, and on the side at y, top or bottom, if there is one
unfoldable pub side_hit : BoundingBox → Float → Float → Float → Float → Crossing
side_hit b x cx c d = one_if (lt tolerance (magnitude cx) && (le b.top (x ⊠ c ⊞ d) && le (x ⊠ c ⊞ d) b.bottom)) x (x ⊠ c ⊞ d)

unfoldable pub level_hit : BoundingBox → Float → Float → Float → Float → Crossing
level_hit b y cy c d = one_if (lt tolerance (magnitude cy) && (le ((y ⊟ d) ⊘ c) b.right && le b.left ((y ⊟ d) ⊘ c))) ((y ⊟ d) ⊘ c) y

-- a line parallel to y
unfoldable pub upright_hit : BoundingBox → Float → Crossing
upright_hit b x = two_if (le x b.right && le b.left x) x b.top x b.bottom

-- the first whose test holds, else the last
unfoldable pub first_held : Bool → Crossing → Bool → Crossing → Bool → Crossing → Crossing → Crossing
first_held a x b y c z w = pick a (λ _. x) (λ _. pick b (λ _. y) (λ _. pick c (λ _. z) (λ _. w)))

-- what is answered of the four, right f, left g, top h, bottom i, whether the line is upright, and what it then is
unfoldable pub settle_of : Crossing → Crossing → Bool → Crossing → Crossing → Crossing → Crossing
settle_of f g up u h i = first_held (some f && some g) (join_of f g) up u (some h && some i) (join_of h i) (join_of (or_of f g) (or_of h i))

abbrev pub line_by : BoundingBox → Point → Float → Float → Float → Float → Crossing
line_by b p cx cy c d =
    settle_of (side_hit b b.right cx c d) (side_hit b b.left cx c d) (lt tolerance (magnitude cy) && lt (magnitude cx) tolerance) (upright_hit b p.x)
    (level_hit b b.top cy c d) (level_hit b b.bottom cy c d)

abbrev pub line_off : BoundingBox → Point → Float → Float → Float → Crossing
line_off b p cx cy c = line_by b p cx cy c (p.y ⊟ p.x ⊠ c)

unfoldable pub line_of : BoundingBox → Point → Point → Crossing
line_of b p q = line_off b p (q.x ⊟ p.x) (q.y ⊟ p.y) ((q.y ⊟ p.y) ⊘ (q.x ⊟ p.x))
