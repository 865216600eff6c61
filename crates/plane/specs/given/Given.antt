-- A box as a call is given it, by its center and size or by its edges: the record, and whether it keeps rule 3.
use Rattle.std.specs.Prelude.{Bool, ◌&&◌, Float}
use Rattle.std.specs.Float.Ieee.{lt, le}
use Rattle.base.specs.common.Binary64.{◌⊞◌, ◌⊟◌, ◌⊘◌, two}
use Rattle.base.specs.numbers.Numbers.{edge}
use Rattle.root.specs.Root.{magnitude}
use Rattle.plane.specs.points.Plane.{at}
use Rattle.plane.specs.declared.points.Point.{Point}
use Rattle.plane.specs.boxes.Box.{made_of}
use Rattle.plane.specs.boxes.Rules.{ok_box}
use Rattle.plane.specs.declared.boxes.BoundingBox.{BoundingBox}
use Rattle.plane.specs.declared.given.Given.{Given}

-- the edges bit for bit; the center is half way between them
unfoldable pub edges_of : Float → Float → Float → Float → BoundingBox
edges_of l t r b = record { center = at (l ⊞ (r ⊟ l) ⊘ two) (t ⊞ (b ⊟ t) ⊘ two); left = l; top = t; right = r; bottom = b }

-- rule 3 for edges: each finite and of magnitude at most 2^101 (a NaN and an infinity fail the test too), and in order
unfoldable pub ok_span : Float → Float → Bool
ok_span low high = le (magnitude low) edge && le (magnitude high) edge && lt low high

unfoldable pub ok_edges : Float → Float → Float → Float → Bool
ok_edges l t r b = ok_span l r && ok_span t b

abbrev pub by_size : Point → Float → Float → Given
by_size c w h = record { sound = ok_box c w h; bounds = made_of c w h }

abbrev pub by_edges : Float → Float → Float → Float → Given
by_edges l t r b = record { sound = ok_edges l t r b; bounds = edges_of l t r b }
