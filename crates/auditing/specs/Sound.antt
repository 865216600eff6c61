-- Theorem: after kind 0 no test of the five takes anything: no ring folds, no corner is outside, none is nearer to another site, the total is whole, |box - sum| 2 ^ bits being at
-- most the box on whole numbers (`whole`), and no two sites stand at one place.
use Rattle.std.specs.Prelude.{◌≡◌, refl, Bool, List, ℕ, ◌+◌, ◌-◌, ◌*◌, ◌/◌, ◌^◌, ◌≤◌, ◌<◌, Float, length, Ok, Err}
use Rattle.std.proofs.Common.{sym, ◌∙◌, arith}
use Rattle.std.proofs.Math.Bool.{true, false}
use Rattle.base.specs.common.Pick.{pick}
use Rattle.ring_area.specs.lowest.Lowest.{lowest, any_below}
use Rattle.ring_area.specs.lowest.laws.Loops.{none_taken}
use Rattle.plane.specs.boxes.Box.{corners_of}
use Rattle.plane.specs.declared.boxes.BoundingBox.{BoundingBox}
use Rattle.plane.specs.declared.given.Given.{Given}
use Rattle.ring_area.specs.Steps.{gains_of, losses_of}
use Rattle.auditing.specs.limit.Limit.{box_twice}
use Rattle.auditing.specs.rings.Fan.{site_folds}
use Rattle.auditing.specs.corners.Outside.{site_outside}
use Rattle.auditing.specs.nearer.Nearer.{far_of, site_nearer}
use Rattle.auditing.specs.total.Total.{rings_total, cell_gains, cell_losses, apart, total_whole}
use Rattle.auditing.specs.total.Whole as total
use Rattle.auditing.specs.places.Places.{has_twin}
use Rattle.auditing.specs.Verdict.{AuditVerdict, audit_kind, twin_verdict, places_stage, total_stage, nearer_verdict, nearer_stage, outside_verdict, outside_stage, rings_stage, verdict_on}
use Rattle.auditing.specs.Promise.{unless_refused, AuditAnswer}
use Rattle.auditing.specs.declared.AuditFault.TheVariants.{Ring}

-- a stage that was passed
record Passes (t : Bool) (after : AuditVerdict) : Type 0 where
  none : t ≡ false
  next : audit_kind after ≡ 0

passes : (t : Bool) (named after : AuditVerdict) → (audit_kind named ≡ 0 → ⊥) → audit_kind (pick t (λ _. named) (λ _. after)) ≡ 0 → Passes t after
passes true named after n e = absurd (n e)
passes false named after n e = record { none = refl; next = e }

module _ (b : BoundingBox) (bits : ℕ) (sites : List Float) (starts others : List ℕ) (v : List Float) (off ix : List ℕ) where
  abbrev n : ℕ
  n = length sites / 2

  abbrev is_whole : Bool
  is_whole = total_whole (box_twice b) bits b v off ix

  first : audit_kind (verdict_on b bits sites starts others v off ix) ≡ 0 → Passes (any_below (site_folds (box_twice b) bits v off ix) n) (outside_stage is_whole b bits sites starts others v off ix)
  unfolding verdict_on rings_stage
  first =
      passes (any_below (site_folds (box_twice b) bits v off ix) n) (Err (Ring (lowest (site_folds (box_twice b) bits v off ix) n)))
      (outside_stage is_whole b bits sites starts others v off ix) (λ e. omega arith)

  second : audit_kind (outside_stage is_whole b bits sites starts others v off ix) ≡ 0 → Passes (any_below (site_outside b v off ix) n) (nearer_stage is_whole (far_of b bits) sites starts others v off ix)
  unfolding outside_stage outside_verdict
  second =
      passes (any_below (site_outside b v off ix) n) (outside_verdict b v off ix (lowest (site_outside b v off ix) n))
      (nearer_stage is_whole (far_of b bits) sites starts others v off ix) (λ e. omega arith)

  third : audit_kind (nearer_stage is_whole (far_of b bits) sites starts others v off ix) ≡ 0 → Passes (any_below (site_nearer (far_of b bits) sites starts others v off ix) n) (total_stage is_whole sites)
  unfolding nearer_stage nearer_verdict
  third =
      passes (any_below (site_nearer (far_of b bits) sites starts others v off ix) n)
      (nearer_verdict (far_of b bits) sites starts others v off ix (lowest (site_nearer (far_of b bits) sites starts others v off ix) n)) (total_stage is_whole sites) (λ e. omega arith)

  fourth : (t : Bool) → audit_kind (total_stage t sites) ≡ 0 → (t ≡ true) × (audit_kind (places_stage sites) ≡ 0)
  unfolding total_stage
  fourth true e = (refl, e)
  fourth false e = absurd (omega arith)

  fifth : audit_kind (places_stage sites) ≡ 0 → Passes (any_below (has_twin sites) n) (Ok tt)
  unfolding places_stage
  fifth = passes (any_below (has_twin sites) n) (twin_verdict sites (lowest (has_twin sites) n)) (Ok tt) (λ e. omega arith)

  module _ (e : audit_kind (verdict_on b bits sites starts others v off ix) ≡ 0) where
    pub no_fold : (s : ℕ) → s < length sites / 2 → site_folds (box_twice b) bits v off ix s ≡ false
    no_fold = none_taken (site_folds (box_twice b) bits v off ix) n (first e).none

    pub none_outside : (s : ℕ) → s < length sites / 2 → site_outside b v off ix s ≡ false
    none_outside = none_taken (site_outside b v off ix) n (second (first e).next).none

    pub none_nearer : (s : ℕ) → s < length sites / 2 → site_nearer (far_of b bits) sites starts others v off ix s ≡ false
    none_nearer = none_taken (site_nearer (far_of b bits) sites starts others v off ix) n (third (second (first e).next).next).none

    pub whole : apart (gains_of (corners_of b) + rings_total (cell_losses v off ix) (length off - 1)) (losses_of (corners_of b) + rings_total (cell_gains v off ix) (length off - 1)) * 2 ^ bits ≤ box_twice b
    whole = total.whole (box_twice b) bits b v off ix (fourth is_whole (third (second (first e).next).next).next).0

    pub no_twin : (s : ℕ) → s < length sites / 2 → has_twin sites s ≡ false
    no_twin = none_taken (has_twin sites) n (fifth (fourth is_whole (third (second (first e).next).next).next).1).none

-- of an answer 0 with kind 0
pub sound_verdict : {g : Given} {sites v : List Float} {off ix starts others : List ℕ} {bits k s c o : ℕ} {m : Float}
    → AuditAnswer g sites v off ix starts others bits 0 k s c o m → k ≡ 0 → audit_kind (verdict_on g.bounds bits sites starts others v off ix) ≡ 0
unfolding unless_refused
sound_verdict a z = sym a.kind_is ∙ z
