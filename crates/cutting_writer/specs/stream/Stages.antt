-- The stream of the four sides: what the code keeps as the stages of cutting::cuts, and the cut by all four. Definitions only.
use Rattle.std.specs.Prelude.{true, false, List, [], ◌∷◌, ℕ, Float, Option, Some, None}
use Rattle.plane.specs.declared.boxes.BoundingBox.{BoundingBox}
use Rattle.cutting.specs.cuts.Rings.{At}
use Rattle.cutting.specs.cuts.Cut.{Side, cut_by}
use Rattle.cutting.specs.cuts.Stream as stream
use Rattle.base.specs.common.Binary64.{zero}
use Rattle.plane.specs.points.Plane.{at}
use Rattle.cutting.specs.corner.Corner.{near, side_of}
use Rattle.cutting.specs.declared.corner.SideName.{SideName}
use Rattle.cutting.specs.declared.corner.SideName.TheVariants.{Left, Top, Right, Bottom}
use Rattle.cutting.specs.declared.corner.Corner.{Corner}
use Rattle.cutting.specs.declared.corner.Carrier.{Carrier}
use Rattle.cutting.specs.declared.corner.Carrier.TheVariants.{Infinity}
use Rattle.cutting.specs.meet.Crossing.{crossings_of}
use Rattle.cutting.specs.declared.pen.Pen.{Pen}
use Rattle.cutting.specs.pen.Pen.{Page, page, inked}
use Rattle.cutting_writer.specs.declared.stream.Spot.{Spot}
use Rattle.cutting_writer.specs.declared.stream.Part.{Part}
use Rattle.cutting_writer.specs.declared.stream.Part.TheVariants as part
use Rattle.cutting_writer.specs.declared.stream.Held.{Held}
use Rattle.cutting_writer.specs.declared.stream.LeftSide.{LeftSide}
use Rattle.cutting_writer.specs.declared.stream.TopSide.{TopSide}
use Rattle.cutting_writer.specs.declared.stream.RightSide.{RightSide}
use Rattle.cutting_writer.specs.declared.stream.BottomSide.{BottomSide}
use Rattle.cutting_writer.specs.declared.stream.Stage.{Stage}

-- a ring of the mesh, as it is cut
abbrev pub Ring : Type 0
Ring = List (At Corner Carrier)

-- ---- what the code keeps
abbrev pub at_of : Spot → At Corner Carrier
at_of v = record { corner = v.corner; on = v.on }

abbrev pub list_of : Part → Ring
list_of part.None = []
list_of (part.One v) = at_of v ∷ []
list_of (part.Two v w) = at_of v ∷ at_of w ∷ []

-- before any corner
abbrev pub nothing : stream.Held Corner Carrier
nothing = record { any = false; first = near (at zero zero); last = record { corner = near (at zero zero); on = Infinity } }

abbrev pub held_of : Option Held → stream.Held Corner Carrier
held_of None = nothing
held_of (Some h) = record { any = true; first = h.first; last = at_of h.last }

abbrev pub Kept : Type 0 → Type 0
Kept X = stream.Stage Corner Carrier X

abbrev pub stage_of : {X : Type 0} → Option Held → X → Kept X
stage_of h x = record { held = held_of h; next = x }

abbrev pub BottomStage : Type 0
BottomStage = Stage BottomSide Pen

abbrev pub RightStage : Type 0
RightStage = Stage RightSide BottomStage

abbrev pub TopStage : Type 0
TopStage = Stage TopSide RightStage

abbrev pub LeftStage : Type 0
LeftStage = Stage LeftSide TopStage

abbrev pub bottom_of : BottomStage → List Float → List ℕ → stream.Stage Corner Carrier Page
bottom_of t v ix = stage_of t.held (page t.next v ix)

abbrev pub right_of : RightStage → List Float → List ℕ → stream.Stage Corner Carrier (stream.Stage Corner Carrier Page)
right_of t v ix = stage_of t.held (bottom_of t.next v ix)

abbrev pub top_of : TopStage → List Float → List ℕ → stream.Stage Corner Carrier (stream.Stage Corner Carrier (stream.Stage Corner Carrier Page))
top_of t v ix = stage_of t.held (right_of t.next v ix)

abbrev pub left_of : LeftStage → List Float → List ℕ → stream.Stage Corner Carrier (stream.Stage Corner Carrier (stream.Stage Corner Carrier (stream.Stage Corner Carrier Page)))
left_of t v ix = stage_of t.held (top_of t.next v ix)

-- ---- the four sides, and what each hands on to
abbrev pub side_at : BoundingBox → List Float → SideName → Side Corner Carrier
side_at b sites s = side_of b (crossings_of b sites) s

unfoldable pub ink_at : BoundingBox → ℕ → Page → At Corner Carrier → Page
ink_at b centers g v = inked b centers g v.corner.place v.corner.number

module _ (b : BoundingBox) (sites : List Float) (centers : ℕ) where
  unfoldable pub feed_bottom : stream.Stage Corner Carrier Page → At Corner Carrier → stream.Stage Corner Carrier Page
  feed_bottom = stream.feed (side_at b sites Bottom) (ink_at b centers)

  unfoldable pub feed_right : stream.Stage Corner Carrier (stream.Stage Corner Carrier Page) → At Corner Carrier → stream.Stage Corner Carrier (stream.Stage Corner Carrier Page)
  feed_right = stream.feed (side_at b sites Right) feed_bottom

  unfoldable pub feed_top : stream.Stage Corner Carrier (stream.Stage Corner Carrier (stream.Stage Corner Carrier Page)) → At Corner Carrier
      → stream.Stage Corner Carrier (stream.Stage Corner Carrier (stream.Stage Corner Carrier Page))
  feed_top = stream.feed (side_at b sites Top) feed_right

  unfoldable pub feed_left : stream.Stage Corner Carrier (stream.Stage Corner Carrier (stream.Stage Corner Carrier (stream.Stage Corner Carrier Page))) → At Corner Carrier
      → stream.Stage Corner Carrier (stream.Stage Corner Carrier (stream.Stage Corner Carrier (stream.Stage Corner Carrier Page)))
  feed_left = stream.feed (side_at b sites Left) feed_top

-- ---- closed one after the other, and before any corner
abbrev pub Stages : Type 0
Stages = stream.Stage Corner Carrier (stream.Stage Corner Carrier (stream.Stage Corner Carrier (stream.Stage Corner Carrier Page)))

module _ (b : BoundingBox) (sites : List Float) (centers : ℕ) where
  abbrev pub closed_high : Stages → stream.Stage Corner Carrier (stream.Stage Corner Carrier Page)
  closed_high t = stream.closed (side_at b sites Top) (feed_right b sites centers) (stream.closed (side_at b sites Left) (feed_top b sites centers) t)

  abbrev pub closed_low : stream.Stage Corner Carrier (stream.Stage Corner Carrier Page) → Page
  closed_low t = stream.closed (side_at b sites Bottom) (ink_at b centers) (stream.closed (side_at b sites Right) (feed_bottom b sites centers) t)

  abbrev pub closed_all : Stages → Page
  closed_all t = closed_low (closed_high t)

abbrev pub opened : Pen → LeftStage
opened pen = record {
  side = record {};
  held = None;
  next = record { side = record {}; held = None; next = record { side = record {}; held = None; next = record { side = record {}; held = None; next = pen } } };
}

-- a ring cut by the four sides in turn
unfoldable pub cut_four : BoundingBox → List Float → Ring → Ring
cut_four b sites ring = cut_by (side_at b sites Bottom) (cut_by (side_at b sites Right) (cut_by (side_at b sites Top) (cut_by (side_at b sites Left) ring)))
