-- Theorem: after kind 0 no test of the five takes anything: no corner is outside, no side comes more often than the same side back, the top right corner of the box is left once more
-- than it is reached along the top edge, no corner is nearer to another site, and no two sites stand at one place.
use Rattle.std.specs.Prelude.{◌≡◌, refl, Bool, ℕ, ◌/◌, ◌<◌, Float, Ok, Err, length}
use Rattle.std.proofs.Math.Bool.{true, false}
use mathlib.Core.List.{List, []}
use Rattle.std.proofs.Common.{arith}
use Rattle.base.specs.common.Pick.{pick}
use Rattle.ring_area.specs.lowest.Lowest.{lowest, any_below}
use Rattle.ring_area.specs.lowest.laws.Loops.{none_taken}
use Rattle.plane.specs.declared.boxes.BoundingBox.{BoundingBox}
use Rattle.auditing.specs.corners.Outside.{site_outside}
use Rattle.auditing.specs.nearer.Nearer.{site_nearer}
use Rattle.auditing.specs.places.Places.{has_twin}
use Rattle.certifying.specs.sides.Sides.{ends_of, side_count, surplus_at, left_once}
use Rattle.certifying.specs.call.Verdict.{CertifyVerdict, certify_far, certify_kind}
use Rattle.certifying.specs.call.Verdict.{certify_twin, twin_stage, certify_nearer, near_stage, border_stage, certify_side, side_stage, certify_outside, certify_on}
use Rattle.certifying.specs.declared.call.CertifyFault.{CertifyFault}
use Rattle.certifying.specs.declared.call.CertifyFault.TheVariants.{Border}

-- a stage that was passed
record StagePassed (t : Bool) (after : CertifyVerdict) : Type 0 where
  none : t ≡ false
  next : certify_kind after ≡ 0

passed : (t : Bool) (named : CertifyFault) (after : CertifyVerdict) → (certify_kind (Err named) ≡ 0 → ⊥) → certify_kind (pick t (λ _. Err named) (λ _. after)) ≡ 0 → StagePassed t after
passed true named after n e = absurd (n e)
passed false named after n e = record { none = refl; next = e }

module _ (b : BoundingBox) (bits : ℕ) (sites v : List Float) (off ix : List ℕ) where
  abbrev n : ℕ
  n = length sites / 2

  first : certify_kind (certify_on b bits sites v off ix) ≡ 0 → StagePassed (any_below (site_outside b v off ix) n) (side_stage b bits sites v off ix)
  unfolding certify_on certify_outside
  first =
      passed (any_below (site_outside b v off ix) n) (certify_outside b v off ix (lowest (site_outside b v off ix) n)) (side_stage b bits sites v off ix) (λ e. omega arith)

  second : certify_kind (side_stage b bits sites v off ix) ≡ 0 → StagePassed (any_below (surplus_at b v ix (ends_of off ix) (side_count off)) (side_count off)) (border_stage b bits sites v off ix)
  unfolding side_stage
  second =
      passed (any_below (surplus_at b v ix (ends_of off ix) (side_count off)) (side_count off))
      (certify_side sites off ix (lowest (surplus_at b v ix (ends_of off ix) (side_count off)) (side_count off))) (border_stage b bits sites v off ix) (λ e. omega arith)

  third : certify_kind (border_stage b bits sites v off ix) ≡ 0 → (left_once b v ix (ends_of off ix) (side_count off) ≡ true) × (certify_kind (near_stage (certify_far b bits) sites v off ix) ≡ 0)
  unfolding border_stage
  third = go (left_once b v ix (ends_of off ix) (side_count off)) (near_stage (certify_far b bits) sites v off ix)
    where
      go : (t : Bool) (after : CertifyVerdict) → certify_kind (pick t (λ _. after) (λ _. Err Border)) ≡ 0 → (t ≡ true) × (certify_kind after ≡ 0)
      go true after e = (refl, e)
      go false after e = absurd (omega arith)

  fourth : certify_kind (near_stage (certify_far b bits) sites v off ix) ≡ 0 → StagePassed (any_below (site_nearer (certify_far b bits) sites [] [] v off ix) n) (twin_stage sites)
  unfolding near_stage certify_nearer
  fourth =
      passed (any_below (site_nearer (certify_far b bits) sites [] [] v off ix) n)
      (certify_nearer (certify_far b bits) sites v off ix (lowest (site_nearer (certify_far b bits) sites [] [] v off ix) n)) (twin_stage sites) (λ e. omega arith)

  fifth : certify_kind (twin_stage sites) ≡ 0 → StagePassed (any_below (has_twin sites) n) (Ok tt)
  unfolding twin_stage
  fifth = passed (any_below (has_twin sites) n) (certify_twin sites (lowest (has_twin sites) n)) (Ok tt) (λ e. omega arith)

  module _ (e : certify_kind (certify_on b bits sites v off ix) ≡ 0) where
    pub corners_inside : (s : ℕ) → s < length sites / 2 → site_outside b v off ix s ≡ false
    corners_inside = none_taken (site_outside b v off ix) n (first e).none

    pub no_surplus : (k : ℕ) → k < side_count off → surplus_at b v ix (ends_of off ix) (side_count off) k ≡ false
    no_surplus = none_taken (surplus_at b v ix (ends_of off ix) (side_count off)) (side_count off) (second (first e).next).none

    pub corner_once : left_once b v ix (ends_of off ix) (side_count off) ≡ true
    corner_once = (third (second (first e).next).next).0

    pub corners_nearest : (s : ℕ) → s < length sites / 2 → site_nearer (certify_far b bits) sites [] [] v off ix s ≡ false
    corners_nearest = none_taken (site_nearer (certify_far b bits) sites [] [] v off ix) n (fourth (third (second (first e).next).next).1).none

    pub none_twice : (s : ℕ) → s < length sites / 2 → has_twin sites s ≡ false
    none_twice = none_taken (has_twin sites) n (fifth (fourth (third (second (first e).next).next).1).next).none
