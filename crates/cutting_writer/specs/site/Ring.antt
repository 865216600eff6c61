-- The ring of a site, which is cut: the circumcenters of its triangles along its walk, each with the bisector that leads on; on the hull it begins and ends at infinity. Definitions only.
use Rattle.std.specs.Prelude.{List, [], ◌∷◌, ◌++◌, map, ℕ, ◌/◌, ltb, Float, length}
use Rattle.base.specs.common.Pick.{pick}
use Rattle.plane.specs.points.Flat.{point_at}
use Rattle.mesh.specs.Mesh.{next_of, whole_of}
use Rattle.cutting.specs.cuts.Rings.{At}
use Rattle.cutting.specs.rings.Names.{on_hull}
use Rattle.cutting.specs.corner.Corner.{circle_center}
use Rattle.cutting.specs.declared.corner.Corner.{Corner}
use Rattle.cutting.specs.declared.corner.Carrier.{Carrier}
use Rattle.cutting.specs.declared.corner.Carrier.TheVariants.{Infinity}
use Rattle.cutting.specs.whole.Whole.{bisector_of}
use Rattle.cutting.specs.border.Border.{hull_end}
use Rattle.cutting_writer.specs.stream.Stages.{Ring}

-- the circumcenter of the triangle of half-edge e, on the bisector that the next half-edge has
abbrev pub out_at : List ℕ → List Float → ℕ → At Corner Carrier
out_at tri centers e = record { corner = circle_center (point_at centers (e / 3)) (e / 3); on = bisector_of tri (next_of e) }

-- where the walk begins on the hull: the end at infinity of its first half-edge
unfoldable pub ray_of : List Float → List ℕ → List ℕ → List Float → ℕ → Ring
ray_of sites tri he centers t = pick (on_hull he t) (λ _. record { corner = hull_end sites tri centers t; on = bisector_of tri t } ∷ []) (λ _. [])

-- where it ends there after half-edge e: the end at infinity of the next one, from where the ring goes on at infinity
unfoldable pub far_of : List Float → List ℕ → List ℕ → List Float → ℕ → Ring
far_of sites tri he centers e = pick (on_hull he (next_of e)) (λ _. record { corner = hull_end sites tri centers (next_of e); on = Infinity } ∷ []) (λ _. [])

-- the last of a list, or t
abbrev pub last_or : ℕ → List ℕ → ℕ
last_or t [] = t
last_or t (e ∷ r) = last_or e r

-- the ring of the site whose walk begins at t; none where that is no half-edge
unfoldable pub site_ring : List Float → List ℕ → List ℕ → List Float → ℕ → Ring
site_ring sites tri he centers t =
    pick (ltb t (length he)) (λ _. ray_of sites tri he centers t ++ (map (out_at tri centers) (whole_of he t) ++ far_of sites tri he centers (last_or t (whole_of he t)))) (λ _. [])
