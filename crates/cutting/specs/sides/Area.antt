-- Forms of sides: what a side from one place to another counts, with its potentials along the sides of a box; over edges it is taken by the carrier, at infinity nothing. One of them is twice
-- the area, as ring_area has it. Definitions only.
use Rattle.std.specs.Prelude.{◌≡◌, true, List, map, Float}
use Rattle.base.specs.common.Binary64.{zero}
use Rattle.plane.specs.declared.points.Point.{Point}
use Rattle.plane.specs.declared.boxes.BoundingBox.{BoundingBox}
use Rattle.ring_area.specs.Area.{product_above, product_under, gain, loss}
use Rattle.cutting.specs.cuts.Numbers.{Balance, none, ◌∔◌, ◌∸◌, ◌≈◌}
use Rattle.cutting.specs.cuts.Rings.{At, EdgeForm}
use Rattle.cutting.specs.pen.Pen.{same_place}
use Rattle.cutting.specs.declared.corner.SideName.{SideName}
use Rattle.cutting.specs.declared.corner.SideName.TheVariants.{Left, Top, Right, Bottom}
use Rattle.cutting.specs.declared.corner.Corner.{Corner}
use Rattle.cutting.specs.declared.corner.Carrier.{Carrier}
use Rattle.cutting.specs.declared.corner.Carrier.TheVariants.{Bisector, Along, Infinity}

-- between two places
abbrev pub between : Point → Point → Balance
between p q = record { plus = gain p q; minus = loss p q }

-- - c y on an upright side, c x on a level one
abbrev pub on_upright : Float → Point → Balance
on_upright c p = record { plus = product_under c p.y; minus = product_above c p.y }

abbrev pub on_level : Float → Point → Balance
on_level c p = record { plus = product_above c p.x; minus = product_under c p.x }

abbrev pub potential : BoundingBox → SideName → Point → Balance
potential b Left = on_upright b.left
potential b Top = on_level b.top
potential b Right = on_upright b.right
potential b Bottom = on_level b.bottom

-- a place lies on a side
abbrev pub OnSide : BoundingBox → SideName → Point → Type 0
OnSide b Left p = p.x ≡ b.left
OnSide b Top p = p.y ≡ b.top
OnSide b Right p = p.x ≡ b.right
OnSide b Bottom p = p.y ≡ b.bottom

-- a form changes its sign with the direction, does not tell places apart that are equal as floats, and along each side it is the difference of a potential
pub record SideForm (b : BoundingBox) : Type 0 where
  pub of : Point → Point → Balance
  pub rise : SideName → Point → Balance
  pub signed : (p q : Point) → of p q ∔ of q p ≈ none
  pub alike : (p q : Point) → same_place p q ≡ true → (z : Point) → (of p z ≈ of q z) × (of z p ≈ of z q)
  pub straight : (s : SideName) (p q : Point) → OnSide b s p → OnSide b s q → of p q ≈ rise s q ∸ rise s p

-- by the carrier, and by the places alone
abbrev pub carried : {b : BoundingBox} → SideForm b → EdgeForm Corner Carrier
carried f p q (Bisector i j) = f.of p.place q.place
carried f p q (Along s) = f.rise s q.place ∸ f.rise s p.place
carried f p q Infinity = none

abbrev pub plain : {b : BoundingBox} → SideForm b → EdgeForm Corner Carrier
plain f p q k = f.of p.place q.place

-- a corner lies on a side: its place does, and a direction of it is along the side
abbrev pub LiesOn : BoundingBox → SideName → Corner → Type 0
LiesOn b Left p = (p.place.x ≡ b.left) × (p.toward.x ≡ zero)
LiesOn b Top p = (p.place.y ≡ b.top) × (p.toward.y ≡ zero)
LiesOn b Right p = (p.place.x ≡ b.right) × (p.toward.x ≡ zero)
LiesOn b Bottom p = (p.place.y ≡ b.bottom) × (p.toward.y ≡ zero)

-- the places of a ring
abbrev pub places_of : List (At Corner Carrier) → List Point
places_of ring = map (λ v. v.corner.place) ring
