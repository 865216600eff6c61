-- Theorem: rule 12 in its own words. Where the circumcenters keep rule 11, the extension over a hull edge is finite exactly where the computed
-- squared length of that edge, from one hull site to the next, is above 0.
use Rattle.std.specs.Prelude.{◌≡◌, refl, Bool, true, false, ◌&&◌, List, ℕ, ◌/◌, ◌<◌, Float, length, get_or}
use Rattle.std.proofs.Common.{arith}
use Rattle.std.specs.Float.Ieee.{lt}
use Rattle.base.specs.common.Binary64.{◌⊟◌, zero}
use Rattle.base.specs.common.Refusals.{Keeps}
use Rattle.plane.specs.points.Flat.{point_at}
use Rattle.plane.specs.points.Rules.{ok_site}
use Rattle.plane.specs.points.Finite.{BoundedPoint}
use Rattle.plane.specs.declared.points.Point.{Point}
use Rattle.plane.specs.points.laws.Extension.{squares}
use Rattle.plane.specs.centers.Finite.{center_bounded}
use Rattle.mesh.specs.Mesh.{start_of, end_of}
use Rattle.mesh.specs.Accepted.{Mesh, table_of, Accepted, site_count}
use Rattle.mesh.specs.Hull.{next_site}
use Rattle.mesh.specs.laws.Facts.{topology, start_site, end_site, leftmost_unpaired}
use Rattle.definition.specs.Cell.{vertex_at}
use Rattle.definition.specs.Build.{finite}
use Rattle.build_laws.specs.Tries.{center_rule, centers_to, extension_at}
use Rattle.build_laws.specs.Reached.{across_x, across_y, extended_bounded, not_extended}
use Rattle.build_laws.specs.laws.VerticesFinite.{finite_both}
use Rattle.build_laws.specs.laws.BeforeCells.{centers_at}

-- the computed squared length of the edge from one site to another
abbrev pub squared_length : List Float → ℕ → ℕ → Float
squared_length sites s t = squares ((point_at sites s).y ⊟ (point_at sites t).y) ((point_at sites t).x ⊟ (point_at sites s).x)

module _ {m : Mesh} (a : Accepted m) (i : ℕ) (l : i < length m.hull) where
  -- the half-edge that is extended over
  abbrev over : ℕ
  over = get_or (table_of m) (next_site m.hull i) 0

  over_hull : (start_of m.triangles over ≡ get_or m.hull i 0) × (end_of m.triangles over ≡ next_site m.hull i) × (over < length m.halfedges)
  over_hull =
      let top = topology a in
      let e = top.border.edges i l in
      let s : next_site m.hull i < site_count m.sites = rw e.4 at (end_site top e.0 e.1) in
      rw (leftmost_unpaired top (next_site m.hull i) s e.0 e.1 e.4 e.2) (e.3, e.4, e.1)

  module _ (kept : Keeps (center_rule m.sites m.triangles)) where
    abbrev centers : List Point
    centers = centers_to m.sites m.triangles (length m.triangles / 3)

    start_kept : ok_site (point_at m.sites (start_of m.triangles over)) ≡ true
    start_kept = a.coordinates (start_of m.triangles over) (start_site (topology a) over over_hull.2)

    end_kept : ok_site (point_at m.sites (end_of m.triangles over)) ≡ true
    end_kept = a.coordinates (end_of m.triangles over) (end_site (topology a) over over_hull.2)

    abbrev is_finite : Bool
    is_finite = finite (extension_at m i).x && finite (extension_at m i).y

    abbrev long : Bool
    long = lt zero (squares (across_x m.sites m.triangles centers over) (across_y m.sites m.triangles centers over))

    finite_long : is_finite ≡ long
    finite_long = by long refl
      where
        by : (t : Bool) → long ≡ t → is_finite ≡ t
        by true e =
            let t : over / 3 < length m.triangles / 3 = omega (arith, over_hull.2, (topology a).same, (topology a).threes) in
            let c : BoundedPoint 400 (vertex_at centers (over / 3)) = rw (centers_at m.sites m.triangles (length m.triangles / 3) (over / 3) t) (center_bounded _ (kept (over / 3) t)) in
            let p = extended_bounded m.sites m.triangles centers over start_kept end_kept c e in
            finite_both (extension_at m i) 401 p.x p.y
        by false e = rw (not_extended m.sites m.triangles centers over start_kept end_kept e) refl

    pub extension_finite : (finite (extension_at m i).x && finite (extension_at m i).y)
        ≡ lt zero (squared_length m.sites (get_or m.hull i 0) (next_site m.hull i))
    extension_finite = rw (over_hull.0, over_hull.1) at finite_long
