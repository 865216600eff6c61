-- A given box that keeps rule 3 is in order, by its center and size as by its edges.
use Rattle.std.specs.Prelude.{◌≡◌, true, ◌&&◌, Float}
use Rattle.std.specs.Float.Ieee.{lt, le}
use Rattle.base.specs.common.laws.And.{and_left, and_right}
use Rattle.base.specs.common.Binary64.{zero}
use Rattle.base.specs.numbers.Numbers.{large, edge}
use Rattle.root.specs.Root.{magnitude}
use Rattle.plane.specs.points.Rules.{ok_site}
use Rattle.plane.specs.declared.points.Point.{Point}
use Rattle.plane.specs.boxes.Box.{made_of}
use Rattle.plane.specs.boxes.Rules.{ok_box}
use Rattle.plane.specs.given.Given.{edges_of, ok_span, ok_edges, by_size, by_edges}
use Rattle.cutting_calls.specs.call.Steps.{InOrder}

pub size_ordered : (c : Point) (w h : Float) → InOrder (by_size c w h)
unfolding ok_box
size_ordered c w h e =
    let order = lt (made_of c w h).left (made_of c w h).right && lt (made_of c w h).top (made_of c w h).bottom in
    let o = and_right (ok_site c && (lt zero w && le w large) && (lt zero h && le h large)) order e in
    record {
      across = and_left (lt (made_of c w h).left (made_of c w h).right) (lt (made_of c w h).top (made_of c w h).bottom) o;
      down = and_right (lt (made_of c w h).left (made_of c w h).right) (lt (made_of c w h).top (made_of c w h).bottom) o;
    }

span_ordered : (low high : Float) → ok_span low high ≡ true → lt low high ≡ true
unfolding ok_span
span_ordered low high e = and_right (le (magnitude low) edge && le (magnitude high) edge) (lt low high) e

pub edges_ordered : (l t r b : Float) → InOrder (by_edges l t r b)
unfolding ok_edges edges_of
edges_ordered l t r b e = record { across = span_ordered l r (and_left (ok_span l r) (ok_span t b) e); down = span_ordered t b (and_right (ok_span l r) (ok_span t b) e) }
