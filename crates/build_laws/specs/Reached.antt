-- Theorem: the hull's extension is at most 2 ^ 401, from sites that keep rule 6 and circumcenters that keep rule 11, exactly where the computed squared length of the
-- hull edge is not 0; where it is 0 the extension is not finite, and refusal 12 comes.
use Rattle.std.specs.Prelude.{◌≡◌, true, false, List, ℕ, ◌/◌, Float}
use Prim.{tt}
use Rattle.std.proofs.Common.{lit≤}
use Rattle.std.specs.Float.{binary64}
use Rattle.std.specs.Float.Ieee.{lt, of_bits}
use Rattle.base.specs.common.Binary64.{◌⊟◌, zero}
use Rattle.root.specs.laws.Bounds.{sub_bound}
use Rattle.root.specs.Bounded.{Bounded}
use Rattle.plane.specs.points.Flat.{point_at}
use Rattle.plane.specs.points.Rules.{ok_site}
use Rattle.plane.specs.points.Finite.{BoundedPoint, site_bounded}
use Rattle.plane.specs.points.laws.Extension.{squares, unit_x, unit_y, reach_bounded, not_reached}
use Rattle.plane.specs.declared.points.Point.{Point}
use Rattle.mesh.specs.Mesh.{start_of, end_of}
use Rattle.definition.specs.Cell.{vertex_at}
use Rattle.definition.specs.Build.{infinity, finite, extended}

far : Bounded 34 infinity
unfolding of_bits
far = lit≤ tt

module _ (sites : List Float) (tri : List ℕ) (vs : List Point) (e : ℕ) where
  -- orthogonal to the hull edge
  abbrev pub across_x : Float
  across_x = (point_at sites (start_of tri e)).y ⊟ (point_at sites (end_of tri e)).y

  abbrev pub across_y : Float
  across_y = (point_at sites (end_of tri e)).x ⊟ (point_at sites (start_of tri e)).x

  module _ (A : ok_site (point_at sites (start_of tri e)) ≡ true) (B : ok_site (point_at sites (end_of tri e)) ≡ true) where
    x_bounded : Bounded 101 across_x
    x_bounded = sub_bound binary64 _ _ 100 (lit≤ tt) (site_bounded _ A).y (site_bounded _ B).y

    y_bounded : Bounded 101 across_y
    y_bounded = sub_bound binary64 _ _ 100 (lit≤ tt) (site_bounded _ B).x (site_bounded _ A).x

    pub extended_bounded : BoundedPoint 400 (vertex_at vs (e / 3)) → lt zero (squares across_x across_y) ≡ true → BoundedPoint 401 (extended sites tri vs e)
    unfolding extended
    extended_bounded c h =
        record {
          x = reach_bounded (vertex_at vs (e / 3)).x _ infinity c.x far (unit_x across_x across_y x_bounded y_bounded h);
          y = reach_bounded (vertex_at vs (e / 3)).y _ infinity c.y far (unit_y across_x across_y x_bounded y_bounded h);
        }

    pub not_extended : lt zero (squares across_x across_y) ≡ false → finite (extended sites tri vs e).x ≡ false
    unfolding extended
    not_extended h = not_reached across_x across_y x_bounded y_bounded h (vertex_at vs (e / 3)).x across_x infinity
