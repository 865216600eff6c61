-- The signed area of a ring of points, exact, and rounded once. Definitions only.
use Rattle.std.specs.Prelude.{Bool, false, true, cond, List, [], ◌∷◌, map, ℕ, ◌+◌, ◌-◌, ◌*◌, ◌^◌, leb, Float}
use Rattle.std.specs.Float.{nan, inf, fin, binary64}
use Rattle.std.specs.Float.Ieee.{unlike, round}
use Rattle.base.specs.common.Binary64.{zero}
use Rattle.root.specs.Root.{units}
use Rattle.plane.specs.points.Flat.{point_at}
use Rattle.plane.specs.declared.points.Point.{Point}

-- below 0, or -0
abbrev pub below : Float → Bool
below nan = false
below (inf s) = s
below (fin s m e) = s

-- the product of two values, in units of 2 ^ -2148: where it is not below 0, and where it is
abbrev pub product_above : Float → Float → ℕ
product_above x y = cond (unlike (below x) (below y)) 0 (units x * units y)

abbrev pub product_under : Float → Float → ℕ
product_under x y = cond (unlike (below x) (below y)) (units x * units y) 0

-- one side of a ring, from p to q: p's y times q's x, less p's x times q's y, as what is added and what is taken off
abbrev pub gain : Point → Point → ℕ
gain p q = product_above p.y q.x + product_under p.x q.y

abbrev pub loss : Point → Point → ℕ
loss p q = product_under p.y q.x + product_above p.x q.y

-- all sides of a ring, from p on and back to a; the list has the corners after p
unfoldable pub gains : Point → Point → List Point → ℕ
gains a p [] = gain p a
gains a p (q ∷ r) = gain p q + gains a q r

unfoldable pub losses : Point → Point → List Point → ℕ
losses a p [] = loss p a
losses a p (q ∷ r) = loss p q + losses a q r

-- g - l in units of 2 ^ -2149, rounded once
unfoldable pub rounded_half : ℕ → ℕ → Float
rounded_half g l = cond (leb l g) (round binary64 false (g - l) (2 ^ 2149)) (round binary64 true (l - g) (2 ^ 2149))

-- the area: positive where the ring turns counter-clockwise with y downward
unfoldable pub area : List Point → Float
area [] = zero
area (p ∷ r) = rounded_half (gains p p r) (losses p p r)

-- of the corners that a cell's entries name
abbrev pub ring_area : List Float → List ℕ → Float
ring_area v cell = area (map (point_at v) cell)
