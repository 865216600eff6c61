-- Rule 6 on points, as a test.
use Rattle.std.specs.Prelude.{Bool, ◌&&◌, Float}
use Rattle.std.specs.Float.Ieee.{le}
use Rattle.root.specs.Root.{magnitude}
use Rattle.base.specs.numbers.Numbers.{large}
use Rattle.plane.specs.declared.points.Point.{Point}

-- finite, and of magnitude at most 2^100: a NaN and an infinity fail the test too
unfoldable pub ok_coord : Float → Bool
ok_coord x = le (magnitude x) large

unfoldable pub ok_site : Point → Bool
ok_site p = ok_coord p.x && ok_coord p.y
