-- Rows: the box of "square" has area 4; a corner half way between two sites is told by no test and keeps the bound, one at the other site is told and breaks it.
use Rattle.std.specs.Prelude.{◌≡◌, refl, true, false, ◌*◌, ◌^◌}
use Prim.{tt}
use Rattle.std.proofs.Common.{not-le_of_lt, lit≤, lit<}
use Rattle.std.specs.Float.Ieee.{of_bits, neg, add, sub, mul, lt}
use Rattle.base.specs.common.Binary64.{zero, one, minus_one, two}
use Rattle.plane.specs.points.Plane.{at}
use Rattle.plane.specs.boxes.Box.{width_of, height_of, corners_of}
use Rattle.plane.specs.declared.boxes.BoundingBox.{BoundingBox}
use Rattle.plane.specs.given.Given.{edges_of}
use Rattle.ring_area.specs.Area.{gains, losses}
use Rattle.auditing.specs.limit.Limit.{box_twice}
use Rattle.auditing.specs.nearer.Nearer.{tolerance_of, far_of, beyond}
use Rattle.audit_truth.specs.Exact.{apart_of, across_and_down}
use Rattle.audit_truth.specs.Near.{NotNearer}

abbrev square : BoundingBox
square = edges_of minus_one minus_one one one

pub record TruthRows : Type 0 where
  pub apart : apart_of minus_one two ≡ 3 * 2 ^ 1074
  pub area : box_twice square ≡ 2 * 4 * 2 ^ 2148
  pub between : beyond (far_of square 20) (at zero one) (at minus_one zero) (at one zero) ≡ false
  pub kept : NotNearer square 20 (across_and_down square) (at zero one) (at minus_one zero) (at one zero)
  pub nearer : beyond (far_of square 20) (at one zero) (at minus_one zero) (at one zero) ≡ true
  pub broken : NotNearer square 20 (across_and_down square) (at one zero) (at minus_one zero) (at one zero) → ⊥

pub rows : TruthRows
unfolding edges_of box_twice corners_of gains losses tolerance_of far_of width_of height_of beyond of_bits neg add sub mul lt
rows = record { apart = refl; area = refl; between = refl; kept = lit≤ tt; nearer = refl; broken = not-le_of_lt (lit< tt) }
