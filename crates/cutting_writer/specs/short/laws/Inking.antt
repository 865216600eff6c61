-- The corners of a ring in slots, as the pen takes them: the definition on what is left, from the present page, is the whole (`inking_step`).
use Rattle.std.specs.Prelude.{◌≡◌, List, [], ℕ, suc, ◌+◌, ◌-◌, ◌≤◌, ◌<◌}
use Rattle.std.proofs.Common.{sym, subst, arith}
use Rattle.plane.specs.declared.boxes.BoundingBox.{BoundingBox}
use Rattle.cutting.specs.cuts.Rings.{At}
use Rattle.cutting.specs.cuts.Stream.{feed_all}
use Rattle.cutting.specs.declared.corner.Corner.{Corner}
use Rattle.cutting.specs.declared.corner.Carrier.{Carrier}
use Rattle.cutting.specs.pen.Pen.{Page}
use Rattle.cutting.specs.pen.Room.{Later, Ready, later_on}
use Rattle.cutting_writer.specs.declared.stream.Spot.{Spot}
use Rattle.cutting_writer.specs.stream.Stages.{ink_at}
use Rattle.cutting_writer.specs.stream.laws.Stages.{ink_grows, ready_first, ready_then}
use Rattle.cutting_writer.specs.slots.Slots.{spot_in, ring_in}

module _ (b : BoundingBox) (centers from count : ℕ) (f : List Spot) (g : Page) where
  pub record Inking (i : ℕ) (h : Page) : Type 0 where
    pub all : feed_all (ink_at b centers) h (ring_in f (from + i) (count - i)) ≡ feed_all (ink_at b centers) g (ring_in f from count)
    pub later : Later g h
    pub done : i ≤ count

  module _ (i : ℕ) (h : Page) (x : Inking i h) (more : i < count) (v : At Corner Carrier) (here : v ≡ spot_in f (from + i)) where
    onward : feed_all (ink_at b centers) (ink_at b centers h v) (ring_in f (from + suc i) (count - suc i)) ≡ feed_all (ink_at b centers) g (ring_in f from count)
    onward =
        let one : count - i ≡ suc (count - suc i) = omega arith in
        let up : suc (from + i) ≡ from + suc i = omega arith in
        rw here (rw (one, up) at x.all)

    pub inking_asks : Ready centers g (feed_all (ink_at b centers) g (ring_in f from count)) → Ready centers h (ink_at b centers h v)
    inking_asks r =
        ready_first (λ (u : Page). u) (ink_at b centers) (ink_grows b [] centers) centers h v (ring_in f (from + suc i) (count - suc i))
        (ready_then x.later (rw (sym onward) at r))

    pub inking_step : (u : Page) → u ≡ ink_at b centers h v → Inking (i + 1) u
    inking_step u e =
        let s : i + 1 ≡ suc i = omega arith in
        record {
          all = rw (s, e) onward;
          later = subst (λ (z : Page). Later g z) (sym e) (later_on x.later (ink_grows b [] centers h v));
          done = omega arith;
        }
