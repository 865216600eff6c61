-- The circumcenter, rule 11 on it as a test, and the public circumcenter's answer.
use Rattle.std.specs.Prelude.{Bool, ◌&&◌, Result, Ok, Err, Float}
use Rattle.std.specs.Float.Ieee.{le}
use Rattle.root.specs.Root.{magnitude}
use Rattle.base.specs.common.Pick.{pick}
use Rattle.base.specs.common.Binary64.{◌⊞◌, ◌⊟◌, ◌⊠◌, ◌⊘◌, one, two}
use Rattle.base.specs.numbers.Numbers.{huge}
use Rattle.base.specs.declared.refusal.Refusal.{Refusal}
use Rattle.base.specs.declared.refusal.Refusal.TheVariants.{Coordinate, Circumcenter}
use Rattle.plane.specs.points.Plane.{at}
use Rattle.plane.specs.points.Rules.{ok_site}
use Rattle.plane.specs.declared.points.Point.{Point}

-- the circumcenter of a, b, c; first from the offsets of b and c from a, their squared lengths and the factor d
abbrev pub center_by : Point → Float → Float → Float → Float → Float → Float → Float → Point
center_by a bx by cx cy bb cc d = at (a.x ⊞ d ⊠ (cy ⊠ bb ⊟ by ⊠ cc)) (a.y ⊞ d ⊠ (bx ⊠ cc ⊟ cx ⊠ bb))

abbrev pub center_off : Point → Float → Float → Float → Float → Point
center_off a bx by cx cy = center_by a bx by cx cy (bx ⊠ bx ⊞ by ⊠ by) (cx ⊠ cx ⊞ cy ⊠ cy) (one ⊘ (two ⊠ (bx ⊠ cy ⊟ by ⊠ cx)))

unfoldable pub center_of : Point → Point → Point → Point
center_of a b c = center_off a (b.x ⊟ a.x) (b.y ⊟ a.y) (c.x ⊟ a.x) (c.y ⊟ a.y)

-- rule 11: finite, and of magnitude at most 2^400
unfoldable pub ok_center : Point → Bool
ok_center p = le (magnitude p.x) huge && le (magnitude p.y) huge

-- the circumcenter: refusal 6, refusal 11, or the point
unfoldable pub center_if : Bool → Bool → Point → Result Point Refusal
center_if sites center p = pick sites (λ _. pick center (λ _. Ok p) (λ _. Err Circumcenter)) (λ _. Err Coordinate)

unfoldable pub center_answer : Point → Point → Point → Result Point Refusal
center_answer a b c = center_if (ok_site a && ok_site b && ok_site c) (ok_center (center_of a b c)) (center_of a b c)
