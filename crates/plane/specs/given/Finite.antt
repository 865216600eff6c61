-- Theorem: a given box that keeps rule 3 has finite edges, whichever way it was given; this is all that anything inside knows of it. And the center of a box by its edges is finite.
use Rattle.std.specs.Prelude.{◌≡◌, true, ◌&&◌, Float}
use Prim.{tt}
use Rattle.std.proofs.Common.{lit≤}
use Rattle.std.specs.Float.{binary64}
use Rattle.std.specs.Float.Ieee.{of_bits, lt, le}
use Rattle.base.specs.common.laws.And.{and_left, and_right, holds}
use Rattle.base.specs.common.Binary64.{◌⊞◌, ◌⊟◌, ◌⊘◌, two}
use Rattle.base.specs.numbers.Numbers.{edge}
use Rattle.root.specs.Root.{magnitude}
use Rattle.root.specs.Bounded.{Bounded}
use Rattle.root.specs.laws.Bounds.{div_bound, two_more, sub_bound, add_bound, weaken}
use Rattle.root.specs.laws.Tested.{le_bound}
use Rattle.plane.specs.points.Finite.{BoundedPoint}
use Rattle.plane.specs.declared.points.Point.{Point}
use Rattle.plane.specs.boxes.Finite.{BoundedBox, box_bounded}
use Rattle.plane.specs.given.Given.{edges_of, ok_span, ok_edges, by_size, by_edges}
use Rattle.plane.specs.declared.given.Given.{Given}

-- what is known of a given box
pub record Fits (g : Given) : Type 0 where
  pub bounded : g.sound ≡ true → BoundedBox 101 g.bounds

span_bounded : (low high : Float) → ok_span low high ≡ true → Bounded 101 low × Bounded 101 high
unfolding ok_span of_bits
span_bounded low high e =
    let a = le (magnitude low) edge in
    let b = le (magnitude high) edge in
    let both = and_left (a && b) (lt low high) e in
    (le_bound low 101 (holds (and_left a b both)), le_bound high 101 (holds (and_right a b both)))

pub edges_bounded : (l t r b : Float) → ok_edges l t r b ≡ true → BoundedBox 101 (edges_of l t r b)
unfolding ok_edges edges_of
edges_bounded l t r b e =
    let across = span_bounded l r (and_left (ok_span l r) (ok_span t b) e) in
    let down = span_bounded t b (and_right (ok_span l r) (ok_span t b) e) in
    record { left = across.0; right = across.1; top = down.0; bottom = down.1 }

pub size_fits : (c : Point) (w h : Float) → Fits (by_size c w h)
size_fits c w h = record { bounded = box_bounded c w h }

pub edges_fit : (l t r b : Float) → Fits (by_edges l t r b)
edges_fit l t r b = record { bounded = edges_bounded l t r b }

half_way : (low high : Float) → Bounded 101 low → Bounded 101 high → Bounded 103 (low ⊞ (high ⊟ low) ⊘ two)
half_way low high a b =
    add_bound binary64 low ((high ⊟ low) ⊘ two) 102 (lit≤ tt) (weaken low 101 102 (lit≤ tt) a)
    (div_bound binary64 (high ⊟ low) two 102 (lit≤ tt) (sub_bound binary64 high low 101 (lit≤ tt) b a) two_more)

pub center_bounded : (l t r b : Float) → ok_edges l t r b ≡ true → BoundedPoint 103 (edges_of l t r b).center
unfolding edges_of
center_bounded l t r b e =
    let s = edges_bounded l t r b e in
    record { x = half_way l r s.left s.right; y = half_way t b s.top s.bottom }
