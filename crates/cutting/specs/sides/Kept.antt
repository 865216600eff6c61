-- What holds of the edges of a ring while it is cut: an edge along a side has both ends on it, and of the line at infinity less is left after each side. Definitions only.
use Rattle.std.specs.Prelude.{◌≡◌, true, ◌⊎◌}
use Rattle.std.specs.Float.Ieee.{lt}
use Rattle.base.specs.common.Binary64.{zero}
use Rattle.plane.specs.declared.points.Point.{Point}
use Rattle.plane.specs.declared.boxes.BoundingBox.{BoundingBox}
use Rattle.cutting.specs.declared.corner.Corner.{Corner}
use Rattle.cutting.specs.declared.corner.Carrier.{Carrier}
use Rattle.cutting.specs.declared.corner.Carrier.TheVariants.{Bisector, Along, Infinity}
use Rattle.cutting.specs.sides.Area.{LiesOn}

-- ---- a box as rule 3 has it
pub record Ordered (b : BoundingBox) : Type 0 where
  pub across : lt b.left b.right ≡ true
  pub down : lt b.top b.bottom ≡ true

-- ---- the line at infinity: the directions that are left of it
abbrev pub Downward : Point → Type 0
Downward d = lt zero d.y ≡ true

abbrev pub DownOrRight : Point → Type 0
DownOrRight d = (lt zero d.x ≡ true) ⊎ Downward d

abbrev pub NotLeft : Point → Type 0
NotLeft d = (lt d.y zero ≡ true) ⊎ DownOrRight d

-- any direction but none
abbrev pub HasDirection : Point → Type 0
HasDirection d = (lt d.x zero ≡ true) ⊎ NotLeft d

abbrev pub Far : (Point → Type 0) → Corner → Type 0
Far H p = (p.far ≡ true) × H p.toward

-- what holds of an edge: along a side both ends are on it, and at infinity both ends are far, in directions of which H holds
abbrev pub FitsCarrier : BoundingBox → (Point → Type 0) → Corner → Corner → Carrier → Type 0
FitsCarrier b H p q (Bisector i j) = Unit {0}
FitsCarrier b H p q (Along s) = LiesOn b s p × LiesOn b s q
FitsCarrier b H p q Infinity = Far H p × Far H q
