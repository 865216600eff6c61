-- From the exponents of a ring's coordinates to the limbs that its products reach.
use Rattle.std.specs.Prelude.{◌≡◌, List, ℕ, ◌+◌, ◌*◌, ◌/◌, ◌^◌, ◌≤◌, ◌<◌, Float, length, get_or}
use Rattle.std.proofs.Common.{sym, ap, ◌∙◌, subst, ⊎_elim, zero-mul, le_trans, arith}
use Rattle.std.specs.Float.{binary64}
use Rattle.std.specs.Float.Ieee.{of_bits}
use Rattle.base.specs.common.laws.Decide.{eq_or_ne, lt_or_ge}
use Rattle.root.specs.Root.{units}
use Rattle.plane.specs.points.Flat.{point_at}
use Rattle.plane.specs.declared.points.Point.{Point}
use Rattle.ring_area.specs.Steps.{SplitOf, Corners, exponent_of}
use Rattle.ring_area.specs.Span.{InSpan, PatternIn, RingPlaced}
use Rattle.ring_area.specs.rounding.Steps.{PatternReached, ReachedPoint, Widened, RingReached}

-- ---- one coordinate more
pub widened_none : (least most : ℕ) → Widened least most least most
widened_none least most = record { low = omega arith; high = omega arith; few = λ h. h }

pub widened_then : {a b a₁ b₁ a₂ b₂ : ℕ} → Widened a b a₁ b₁ → Widened a₁ b₁ a₂ b₂ → Widened a b a₂ b₂
widened_then v w = record { low = le_trans w.low v.low; high = le_trans v.high w.high; few = λ h. w.few (v.few h) }

pub reached_still : {a b a₁ b₁ k : ℕ} → Widened a b a₁ b₁ → PatternReached a b k → PatternReached a₁ b₁ k
reached_still w r = record { some = λ h. (le_trans w.low (r.some h).0, le_trans (r.some h).1 w.high) }

pub point_still : {a b a₁ b₁ : ℕ} {p : Point} → Widened a b a₁ b₁ → ReachedPoint a b p → ReachedPoint a₁ b₁ p
point_still w r = record { x = reached_still w r.x; y = reached_still w r.y }

module _ {b m p : ℕ} (s : SplitOf b m p) where
  pub reached_none : (least most : ℕ) → m ≡ 0 → PatternReached least most b
  reached_none least most z = record { some = λ h. absurd (no (units (of_bits binary64 b)) h (s.value ∙ ap (λ (k : ℕ). k * 2 ^ p) z ∙ zero-mul (2 ^ p))) }
    where
      no : (u : ℕ) → 0 < u → u ≡ 0 → ⊥
      no u h e = omega arith

  pub reached_here : {least most : ℕ} → least ≤ p → p ≤ most → PatternReached least most b
  reached_here g h = record { some = λ _. (omega (arith, s.place), omega (arith, s.place)) }

-- ---- the corners before i
pub record ReachTo (v : List Float) (cell : List ℕ) (least most i : ℕ) : Type 0 where
  pub within : i ≤ length cell
  pub each : (k : ℕ) → k < i → ReachedPoint least most (point_at v (get_or cell k 0))
  pub few : most ≤ 1422

pub reach_start : (v : List Float) (cell : List ℕ) (least : ℕ) → ReachTo v cell least 0 0
reach_start v cell least = record { within = omega arith; each = λ k h. absurd (omega arith); few = omega arith }

module _ {v : List Float} {cell : List ℕ} {a b i : ℕ} (r : ReachTo v cell a b i) where
  pub reach_step : {a₁ b₁ : ℕ} {p : Point} → i < length cell → p ≡ point_at v (get_or cell i 0) → Widened a b a₁ b₁ → ReachedPoint a₁ b₁ p → ReachTo v cell a₁ b₁ (i + 1)
  reach_step {a₁} {b₁} {p} h e w q = record {
    within = omega arith;
    each = λ k g. ⊎_elim
        (λ m. subst (λ (j : ℕ). ReachedPoint a₁ b₁ (point_at v (get_or cell j 0))) (sym m) (subst (ReachedPoint a₁ b₁) e q))
        (λ m. point_still w (r.each k (before k g m)))
        (eq_or_ne k i);
    few = w.few r.few;
  }
    where
      before : (k : ℕ) → k < i + 1 → (k ≡ i → ⊥) → k < i
      before k g n = ⊎_elim (λ a. a) (λ a. absurd (n (omega arith))) (lt_or_ge k i)

  pub reach_end : length cell ≤ i → RingReached v cell a b
  reach_end h = record { each = λ k g. r.each k (omega arith); few = r.few }

-- ---- the limbs: f is the lowest, n their number
module _ {least most f n : ℕ} (F : 16 * f ≤ least) (N : f + n ≡ most / 16 + 6) where
  pattern_in : {b : ℕ} → PatternReached least most b → PatternIn f n b
  pattern_in {b} r = record { some = λ h. inside (exponent_of b) (r.some h).0 (r.some h).1 }
    where
      inside : (e : ℕ) → least ≤ e → e ≤ most → InSpan f n e
      inside e g h = record { low = omega arith; high = omega arith }

  pub ring_placed : {v : List Float} {cell : List ℕ} → Corners v cell → RingReached v cell least most → RingPlaced f n v cell
  ring_placed {v} c r = record {
    each = λ k h. record { bounded = c.bounded k h; x = pattern_in (r.each k h).x; y = pattern_in (r.each k h).y };
  }

pub placed_as : {f n k : ℕ} {v : List Float} {cell : List ℕ} → n ≡ k → RingPlaced f k v cell → RingPlaced f n v cell
placed_as {f} {v = v} {cell = cell} e p = subst (λ (j : ℕ). RingPlaced f j v cell) (sym e) p
