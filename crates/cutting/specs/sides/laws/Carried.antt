-- Twice the area is the difference of its potential along a side (`side_same`) and changes its sign with the direction (`between_signed`); a form by places, summed over the edges of a ring, is
-- its sum round the places (`placed`).
use Rattle.std.specs.Prelude.{◌≡◌, refl, List, [], ◌∷◌, Float}
use Rattle.std.proofs.Common.{arith}
use Rattle.plane.specs.declared.points.Point.{Point}
use Rattle.plane.specs.declared.boxes.BoundingBox.{BoundingBox}
use Rattle.area_laws.specs.laws.Sides.{above_swap, under_swap}
use Rattle.area_laws.specs.Exact.{gain_back}
use Rattle.cutting.specs.cuts.Numbers.{none, ◌∔◌, ◌∸◌, ◌≈◌}
use Rattle.cutting.specs.cuts.Rings.{At, edges_to, total, sum_over}
use Rattle.cutting.specs.cuts.Written.{chain_to, round}
use Rattle.cutting.specs.declared.corner.SideName.{SideName}
use Rattle.cutting.specs.declared.corner.SideName.TheVariants.{Left, Top, Right, Bottom}
use Rattle.cutting.specs.declared.corner.Corner.{Corner}
use Rattle.cutting.specs.declared.corner.Carrier.{Carrier}
use Rattle.cutting.specs.sides.Area.{between, on_upright, on_level, potential, OnSide, SideForm, plain, places_of}

-- ---- along a side
upright_same : (c : Float) (p q : Point) → p.x ≡ c → q.x ≡ c → between p q ≈ on_upright c q ∸ on_upright c p
upright_same c p q e f = rw (e, f, above_swap p.y c, under_swap p.y c) (omega arith)

level_same : (c : Float) (p q : Point) → p.y ≡ c → q.y ≡ c → between p q ≈ on_level c q ∸ on_level c p
level_same c p q e f = rw (e, f, above_swap p.x c, under_swap p.x c) (omega arith)

pub side_same : (b : BoundingBox) (s : SideName) (p q : Point) → OnSide b s p → OnSide b s q → between p q ≈ potential b s q ∸ potential b s p
side_same b Left p q e f = upright_same b.left p q e f
side_same b Top p q e f = level_same b.top p q e f
side_same b Right p q e f = upright_same b.right p q e f
side_same b Bottom p q e f = level_same b.bottom p q e f

-- ---- the other way round it is taken off
pub between_signed : (p q : Point) → between p q ∔ between q p ≈ none
between_signed p q = rw (gain_back p q, gain_back q p) (omega arith)

-- ---- over the edges of a ring
module _ {b : BoundingBox} (f : SideForm b) where
  placed_to : (e : Corner) (v : At Corner Carrier) (r : List (At Corner Carrier)) → total (plain f) (edges_to e (v ∷ r)) ≈ chain_to f.of e.place v.corner.place (places_of r)
  placed_to e v [] = omega arith
  placed_to e v (w ∷ r) = omega (arith, placed_to e w r)

  pub placed : (ring : List (At Corner Carrier)) → sum_over (plain f) ring ≈ round f.of (places_of ring)
  placed [] = refl
  placed (v ∷ r) = placed_to v.corner v r
