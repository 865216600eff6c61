-- The search by a tree: the test itself, of one corner against one site. Definitions only.
use Rattle.std.specs.Prelude.{Bool, List, ℕ, Float, get_or}
use Rattle.plane.specs.points.Flat.{point_at}
use Rattle.plane.specs.declared.points.Point.{Point}
use Rattle.auditing.specs.nearer.Nearer.{beyond}

-- corner k of a ring against one site
unfoldable pub corner_past : Float → Point → Point → List Float → List ℕ → ℕ → Bool
corner_past far s o v cell k = beyond far (point_at v (get_or cell k 0)) s o
