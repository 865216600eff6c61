-- Every ring is within the 94 limbs of a whole long number.
use Rattle.std.proofs.Common.{sym, ◌∙◌, subst, arith}
use Rattle.std.specs.Prelude.{List, ℕ, ◌-◌, ◌/◌, ◌%◌, ◌^◌, ◌≤◌, Float, length, get_or}
use Rattle.ring_area.specs.long.laws.Lifted.{lifted_none}
use Rattle.plane.specs.points.Finite.{BoundedPoint}
use Rattle.plane.specs.points.Flat.{point_at}
use Rattle.plane.specs.declared.points.Point.{Point}
use Rattle.ring_area.specs.Steps.{LowPattern, Open, Corners, exponent_of}
use Rattle.ring_area.specs.Span.{InSpan, PatternIn, CornerIn, RingPlaced, BothOpen}
use Rattle.ring_area.specs.laws.Splits.{pattern_low}

low_in : {b : ℕ} → LowPattern b → PatternIn 0 94 b
low_in {b} l = record { some = λ _. inside (exponent_of b) (fewer (b % 2 ^ 63 / 2 ^ 52) l.exponent) }
  where
    fewer : (e : ℕ) → e ≤ 1423 → e - 1 ≤ 1422
    fewer e h = omega arith

    inside : (e : ℕ) → e ≤ 1422 → InSpan 0 94 e
    inside e h = record { low = omega arith; high = omega arith }

corner_whole : (p : Point) → BoundedPoint 400 p → CornerIn 0 94 p
corner_whole p b = record { bounded = b; x = low_in (pattern_low p.x b.x).low; y = low_in (pattern_low p.y b.y).low }

pub placed_whole : {v : List Float} {cell l : List ℕ} {puts : ℕ} → Open l puts → Corners v cell → RingPlaced 0 (length l) v cell
placed_whole {v} {cell} o c = subst (λ (n : ℕ). RingPlaced 0 n v cell) (sym o.long) (record { each = λ k h. corner_whole (point_at v (get_or cell k 0)) (c.bounded k h) })

pub ready_whole : {p m : List ℕ} {puts : ℕ} → Open p puts → Open m puts → BothOpen 0 p m puts
ready_whole {p} {m} a b = record { same = b.long ∙ sym a.long; plus = rw (lifted_none p) a.room; minus = rw (lifted_none m) b.room }
