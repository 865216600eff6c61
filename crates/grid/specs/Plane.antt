-- Whole coordinates with a sign: the profile's limits, which way three places turn, and the circle through them, as textbooks have them.
use Rattle.std.specs.Prelude.{◌≡◌, Bool, true, List, ℕ, ◌+◌, ◌*◌, ◌<◌, length, get_or, ℤ, pos, neg_ℤ, ◌+ℤ◌, ◌-ℤ◌, ◌*ℤ◌}
use Rattle.std.specs.Int.Signed.{lt_z, le_z}

pub record GridPoint : Type 0 where
  pub x : ℤ
  pub y : ℤ

-- a coordinate of the profile: from -8,192 to 8,192
pub record Within (v : ℤ) : Type 0 where
  pub above : le_z (neg_ℤ (pos 8192)) v ≡ true
  pub below : le_z v (pos 8192) ≡ true

-- (b - a) × (c - a), twice the area with a sign
abbrev pub cross_of : GridPoint → GridPoint → GridPoint → ℤ
cross_of a b c = (b.x -ℤ a.x) *ℤ (c.y -ℤ a.y) -ℤ (b.y -ℤ a.y) *ℤ (c.x -ℤ a.x)

-- a, b, c turn counter-clockwise with Y downward; three on a line do not
abbrev pub turns_left : GridPoint → GridPoint → GridPoint → Bool
turns_left a b c = lt_z (cross_of a b c) (pos 0)

-- clockwise: read backward they turn counter-clockwise
abbrev pub turns_right : GridPoint → GridPoint → GridPoint → Bool
turns_right a b c = turns_left c b a

-- how far the edge from a to b goes up: 32,768 dy + dx, which is 0 for no two places of the profile
abbrev pub rise_of : GridPoint → GridPoint → ℤ
rise_of a b = pos 32768 *ℤ (b.y -ℤ a.y) +ℤ (b.x -ℤ a.x)

abbrev pub goes_up : GridPoint → GridPoint → Bool
goes_up a b = lt_z (pos 0) (rise_of a b)

-- the squared distance from a to d
abbrev pub squared_to : GridPoint → GridPoint → ℤ
squared_to a d = (a.x -ℤ d.x) *ℤ (a.x -ℤ d.x) +ℤ (a.y -ℤ d.y) *ℤ (a.y -ℤ d.y)

-- the determinant with the rows p - d and (p - d)² for p = a, b, c, by its last column
abbrev pub in_circle : GridPoint → GridPoint → GridPoint → GridPoint → ℤ
in_circle a b c d = squared_to a d *ℤ cross_of d b c +ℤ squared_to b d *ℤ cross_of d c a +ℤ squared_to c d *ℤ cross_of d a b

-- d is strictly inside the circle through a, b, c, which turn counter-clockwise with Y downward
abbrev pub strictly_inside : GridPoint → GridPoint → GridPoint → GridPoint → Bool
strictly_inside a b c d = lt_z (in_circle a b c d) (pos 0)

-- site s of the lent coordinates, x and y of each site in turn
abbrev pub place_at : List ℤ → ℕ → GridPoint
place_at grid s = record { x = get_or grid (2 * s) (pos 0); y = get_or grid (2 * s + 1) (pos 0) }

-- rule 22 of site s
abbrev pub WithinAt : List ℤ → ℕ → Type 0
WithinAt grid s = Within (place_at grid s).x × Within (place_at grid s).y

-- a site that is there and keeps rule 22
pub record SiteAt (grid : List ℤ) (s : ℕ) : Type 0 where
  pub there : 2 * s + 1 < length grid
  pub within : WithinAt grid s
