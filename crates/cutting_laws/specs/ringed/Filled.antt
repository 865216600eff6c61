-- Theorem: a site's ring as it is walked and cut, written, is its piece by the definition (`site_places`), and no corner of it is at infinity (`none_far`).
use Rattle.std.specs.Prelude.{◌≡◌, ℕ, ◌<◌, Float, get_or}
use Rattle.std.proofs.Common.{ap}
use Rattle.std.proofs.Math.Path.{subst}
use mathlib.Core.List.{List}
use Rattle.plane.specs.points.Flat.{point_at}
use Rattle.plane.specs.declared.boxes.BoundingBox.{BoundingBox}
use Rattle.mesh.specs.Mesh.{leftmost_of}
use Rattle.mesh.specs.Accepted.{Topology}
use Rattle.cutting.specs.cuts.Rings.{At}
use Rattle.cutting.specs.cuts.Written.{written_ring}
use Rattle.cutting.specs.declared.corner.Corner.{Corner}
use Rattle.cutting.specs.declared.corner.Carrier.{Carrier}
use Rattle.cutting.specs.sides.Kept.{Ordered}
use Rattle.cutting.specs.sides.Area.{places_of}
use Rattle.cutting.specs.pen.Pen.{same_place}
use Rattle.cutting.specs.sides.Inside.{AllNear, pieces_near}
use Rattle.cutting.specs.meet.Crossing.{crossings_of}
use Rattle.cutting.specs.meet.Meets.{crossings_between}
use Rattle.cutting.specs.whole.Whole.{ring_fits, ring_aimed}
use Rattle.cutting.specs.border.Border.{toward_of, border_number}
use Rattle.cutting_writer.specs.stream.Stages.{cut_four}
use Rattle.cutting_writer.specs.site.Ring.{site_ring}
use Rattle.cutting_laws.specs.theorem.MeshPieces.{numbers_from, mesh_ring, piece_places}
use Rattle.cutting_laws.specs.theorem.laws.InTurn.{each_once, each_below}
use Rattle.cutting_laws.specs.theorem.laws.NumberNone.{all_directed}
use Rattle.cutting_laws.specs.ringed.Walked.{site_ring_lem}

pub site_places : (sites : List Float) (tri he : List ℕ) (n : ℕ) (centers : List Float) (b : BoundingBox) (s : ℕ)
    → piece_places sites tri he n centers b s ≡ written_ring same_place (places_of (cut_four b sites (site_ring sites tri he centers (get_or (leftmost_of tri he n) s 0))))
unfolding cut_four
site_places sites tri he n centers b s = ap (λ (r : List (At Corner Carrier)). written_ring same_place (places_of (cut_four b sites r))) (site_ring_lem sites tri he n centers s)

module _ {tri he hull : List ℕ} {n : ℕ} (ok : Topology tri he hull n) (b : BoundingBox) (ordered : Ordered b) (sites centers : List Float)
    (none : border_number b sites tri hull (leftmost_of tri he n) centers ≡ 0)
  where
    pub none_far : (s : ℕ) → s < n → AllNear (cut_four b sites (site_ring sites tri he centers (get_or (leftmost_of tri he n) s 0)))
    unfolding cut_four
    none_far s l =
        subst (λ (r : List (At Corner Carrier)). AllNear (cut_four b sites r)) (site_ring_lem sites tri he n centers s)
        (pieces_near b ordered (crossings_of b sites) (crossings_between b sites ordered) (mesh_ring sites tri he n centers s)
        (ring_fits ok (numbers_from 0 n) (each_once n) (each_below n) (point_at centers) (toward_of sites tri) b (all_directed ok b sites centers none) s l)
        (ring_aimed ok (numbers_from 0 n) (each_once n) (each_below n) (point_at centers) (toward_of sites tri) b (all_directed ok b sites centers none) s l))
