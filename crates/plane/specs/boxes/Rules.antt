-- Rule 3 on the box as given.
use Rattle.std.specs.Prelude.{Bool, ◌&&◌, Float}
use Rattle.std.specs.Float.Ieee.{lt, le}
use Rattle.base.specs.common.Binary64.{zero}
use Rattle.base.specs.numbers.Numbers.{large}
use Rattle.plane.specs.points.Rules.{ok_site}
use Rattle.plane.specs.declared.points.Point.{Point}
use Rattle.plane.specs.boxes.Box.{made_of}

unfoldable pub ok_box : Point → Float → Float → Bool
ok_box c w h = ok_site c && (lt zero w && le w large) && (lt zero h && le h large) && (lt (made_of c w h).left (made_of c w h).right && lt (made_of c w h).top (made_of c w h).bottom)
