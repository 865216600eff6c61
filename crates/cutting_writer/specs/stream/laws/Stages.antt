-- Laws of the stages: nothing that is counted falls, so that the room for all is room for each part (`all_grows`, `ready_first`); and what the stages hand on, to their
-- close, is the ring cut by the four sides (`stages_cut`).
use Rattle.std.specs.Prelude.{◌≡◌, false, List, [], ◌∷◌, ℕ, Float}
use Rattle.std.proofs.Math.Path.{ap}
use Rattle.std.proofs.Common.{◌∙◌}
use Rattle.plane.specs.declared.boxes.BoundingBox.{BoundingBox}
use Rattle.cutting.specs.cuts.Rings.{At}
use Rattle.cutting.specs.cuts.Cut.{Side, cut_by}
use Rattle.cutting.specs.cuts.Stream.{Stage, given, feed_all, feed, closed, stage_cut}
use Rattle.cutting.specs.declared.corner.SideName.TheVariants.{Left, Top, Right, Bottom}
use Rattle.cutting.specs.declared.corner.Corner.{Corner}
use Rattle.cutting.specs.declared.corner.Carrier.{Carrier}
use Rattle.cutting.specs.pen.Pen.{Page}
use Rattle.cutting.specs.pen.Room.{Later, Ready, later_same, later_on, inked_later, roomy_before, corners_later}
use Rattle.cutting_writer.specs.stream.Stages.{Ring, Stages, side_at, ink_at, feed_bottom, feed_right, feed_top, feed_left, cut_four, closed_high, closed_low, closed_all}

-- f, on states of which P is the page, lets nothing fall
abbrev pub Grows : {X A : Type 0} → (X → Page) → (X → A → X) → Type 0
Grows {X} {A} P f = (x : X) (a : A) → Later (P x) (P (f x a))

pub all_grows : {X A : Type 0} (P : X → Page) (f : X → A → X) → Grows P f → (x : X) (l : List A) → Later (P x) (P (feed_all f x l))
all_grows P f g x [] = later_same (P x)
all_grows P f g x (a ∷ l) = later_on (g x a) (all_grows P f g (f x a) l)

pub stage_grows : {X : Type 0} (P : X → Page) (s : Side Corner Carrier) (f : X → At Corner Carrier → X) → Grows P f → Grows (λ (t : Stage Corner Carrier X). P t.next) (feed s f)
stage_grows P s f g t v = all_grows P f g t.next (given s t.held v.corner)

pub closed_grows : {X : Type 0} (P : X → Page) (s : Side Corner Carrier) (f : X → At Corner Carrier → X) → Grows P f → (t : Stage Corner Carrier X) → Later (P t.next) (P (closed s f t))
closed_grows P s f g t = all_grows P f g t.next (given s t.held t.held.first)

module _ (b : BoundingBox) (sites : List Float) (centers : ℕ) where
  pub ink_grows : Grows (λ g. g) (ink_at b centers)
  unfolding ink_at
  ink_grows g v = inked_later b centers g v.corner.place v.corner.number

  pub bottom_grows : Grows (λ t. t.next) (feed_bottom b sites centers)
  unfolding feed_bottom
  bottom_grows = stage_grows (λ g. g) (side_at b sites Bottom) (ink_at b centers) ink_grows

  pub right_grows : Grows (λ t. t.next.next) (feed_right b sites centers)
  unfolding feed_right
  right_grows = stage_grows (λ t. t.next) (side_at b sites Right) (feed_bottom b sites centers) bottom_grows

  pub top_grows : Grows (λ t. t.next.next.next) (feed_top b sites centers)
  unfolding feed_top
  top_grows = stage_grows (λ t. t.next.next) (side_at b sites Top) (feed_right b sites centers) right_grows

  pub left_grows : Grows (λ t. t.next.next.next.next) (feed_left b sites centers)
  unfolding feed_left
  left_grows = stage_grows (λ t. t.next.next.next) (side_at b sites Left) (feed_top b sites centers) top_grows

-- of two, the first and then the second
module _ {X A : Type 0} (P : X → Page) (f : X → A → X) (g : Grows P f) (centers : ℕ) where
  pub ready_first : (x : X) (a : A) (l : List A) → Ready centers (P x) (P (feed_all f x (a ∷ l))) → Ready centers (P x) (P (f x a))
  ready_first x a l r = record { corners = r.corners; room = roomy_before (all_grows P f g (f x a) l) r.room }

-- all four, closed
module _ (b : BoundingBox) (sites : List Float) (centers : ℕ) where
  -- before any corner
  pub record Fresh (t : Stages) : Type 0 where
    pub left : t.held.any ≡ false
    pub top : t.next.held.any ≡ false
    pub right : t.next.next.held.any ≡ false
    pub bottom : t.next.next.next.held.any ≡ false

  pub stages_cut : (t : Stages) → Fresh t → (ring : Ring)
      → closed_all b sites centers (feed_all (feed_left b sites centers) t ring) ≡ feed_all (ink_at b centers) t.next.next.next.next (cut_four b sites ring)
  unfolding cut_four feed_right feed_bottom feed_top feed_left
  stages_cut t h ring =
      let l = cut_by (side_at b sites Left) ring in
      let m = cut_by (side_at b sites Top) l in
      ap (λ (z : Stage Corner Carrier (Stage Corner Carrier (Stage Corner Carrier Page))). closed_low b sites centers (closed (side_at b sites Top) (feed_right b sites centers) z))
      (stage_cut (side_at b sites Left) (feed_top b sites centers) t h.left ring)
      ∙ ap (λ (z : Stage Corner Carrier (Stage Corner Carrier Page)). closed_low b sites centers z)
      (stage_cut (side_at b sites Top) (feed_right b sites centers) t.next h.top l)
      ∙ ap (λ (z : Stage Corner Carrier Page). closed (side_at b sites Bottom) (ink_at b centers) z)
      (stage_cut (side_at b sites Right) (feed_bottom b sites centers) t.next.next h.right m)
      ∙ stage_cut (side_at b sites Bottom) (ink_at b centers) t.next.next.next h.bottom (cut_by (side_at b sites Right) m)

  -- closing lets nothing fall either
  pub close_left_grows : (t : Stages) → Later t.next.next.next.next (closed (side_at b sites Left) (feed_top b sites centers) t).next.next.next
  close_left_grows t = all_grows (λ t. t.next.next.next) (feed_top b sites centers) (top_grows b sites centers) t.next (given (side_at b sites Left) t.held t.held.first)

  pub close_top_grows : (t : Stage Corner Carrier (Stage Corner Carrier (Stage Corner Carrier Page)))
      → Later t.next.next.next (closed (side_at b sites Top) (feed_right b sites centers) t).next.next
  close_top_grows t = all_grows (λ t. t.next.next) (feed_right b sites centers) (right_grows b sites centers) t.next (given (side_at b sites Top) t.held t.held.first)

  pub close_right_grows : (t : Stage Corner Carrier (Stage Corner Carrier Page)) → Later t.next.next (closed (side_at b sites Right) (feed_bottom b sites centers) t).next
  close_right_grows t = all_grows (λ t. t.next) (feed_bottom b sites centers) (bottom_grows b sites centers) t.next (given (side_at b sites Right) t.held t.held.first)

  pub close_bottom_grows : (t : Stage Corner Carrier Page) → Later t.next (closed (side_at b sites Bottom) (ink_at b centers) t)
  close_bottom_grows t = all_grows (λ g. g) (ink_at b centers) (ink_grows b sites centers) t.next (given (side_at b sites Bottom) t.held t.held.first)

  pub close_high_grows : (t : Stages) → Later t.next.next.next.next (closed_high b sites centers t).next.next
  close_high_grows t = later_on (close_left_grows t) (close_top_grows (closed (side_at b sites Left) (feed_top b sites centers) t))

  pub close_low_grows : (t : Stage Corner Carrier (Stage Corner Carrier Page)) → Later t.next.next (closed_low b sites centers t)
  close_low_grows t = later_on (close_right_grows t) (close_bottom_grows (closed (side_at b sites Right) (feed_bottom b sites centers) t))

  pub close_all_grows : (t : Stages) → Later t.next.next.next.next (closed_all b sites centers t)
  close_all_grows t = later_on (close_high_grows t) (close_low_grows (closed_high b sites centers t))

-- in two steps, from f over g to h
pub ready_half : {f g h : Page} {centers : ℕ} → Later g h → Ready centers f h → Ready centers f g
ready_half x r = record { corners = r.corners; room = roomy_before x r.room }

pub ready_then : {f g h : Page} {centers : ℕ} → Later f g → Ready centers f h → Ready centers g h
ready_then {centers = centers} x r = record { corners = corners_later centers x r.corners; room = r.room }
