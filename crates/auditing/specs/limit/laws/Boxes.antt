-- The box as a list of coordinates and a ring of four entries.
use Rattle.std.specs.Prelude.{◌≡◌, refl, List, [], ◌∷◌, map, ℕ, zero, suc, ◌+◌, ◌-◌, ◌*◌, ◌/◌, ◌^◌, ◌≤◌, ◌<◌, Float, get_or, replicate}
use Rattle.std.proofs.Math.Path.{ap}
use Rattle.std.proofs.Common.{◌∙◌, subst, arith, lit≤, lit<}
use Prim.{tt}
use Rattle.root.specs.Bounded.{Bounded}
use Rattle.root.specs.laws.Bounds.{weaken}
use Rattle.plane.specs.points.Finite.{BoundedPoint}
use Rattle.plane.specs.points.Flat.{point_at}
use Rattle.plane.specs.declared.points.Point.{Point}
use Rattle.plane.specs.boxes.Box.{corners_of}
use Rattle.plane.specs.boxes.Finite.{BoundedBox}
use Rattle.plane.specs.declared.boxes.BoundingBox.{BoundingBox}
use Rattle.ring_area.specs.long.Amount.{amount}
use Rattle.ring_area.specs.long.Steps.{PutIn}
use Rattle.ring_area.specs.Steps.{Corners, gains_of, losses_of, RingIn, SumFits}
use Rattle.ring_area.specs.laws.Bounds.{ring_gains, ring_losses}
use Rattle.ring_area.specs.laws.Settles.{summed, total_is}
use Rattle.ring_area.specs.limits.Long.{LongOf, Divided}
use Rattle.auditing.specs.limit.Limit.{box_twice, BoxIn}

abbrev pub edges : BoundingBox → List Float
edges b = b.left ∷ b.top ∷ b.left ∷ b.bottom ∷ b.right ∷ b.bottom ∷ b.right ∷ b.top ∷ []

abbrev pub four : List ℕ
four = 0 ∷ 1 ∷ 2 ∷ 3 ∷ []

pub as_corners : (b : BoundingBox) → map (point_at (edges b)) four ≡ corners_of b
unfolding corners_of
as_corners b = refl

pub box_corners : (b : BoundingBox) → BoundedBox 101 b → Corners (edges b) four
box_corners b h = record { few = lit≤ tt; named = named; bounded = bounded }
  where
    named : (k : ℕ) → k < 4 → 2 * get_or four k 0 + 1 < 8
    named zero g = lit< tt
    named (suc zero) g = lit< tt
    named (suc (suc zero)) g = lit< tt
    named (suc (suc (suc zero))) g = lit< tt
    named (suc (suc (suc (suc k)))) g = absurd (omega arith)

    wider : (x : Float) → Bounded 101 x → Bounded 400 x
    wider x = weaken x 101 400 (lit≤ tt)

    bounded : (k : ℕ) → k < 4 → BoundedPoint 400 (point_at (edges b) (get_or four k 0))
    bounded zero g = record { x = wider b.left h.left; y = wider b.top h.top }
    bounded (suc zero) g = record { x = wider b.left h.left; y = wider b.bottom h.bottom }
    bounded (suc (suc zero)) g = record { x = wider b.right h.right; y = wider b.bottom h.bottom }
    bounded (suc (suc (suc zero))) g = record { x = wider b.right h.right; y = wider b.top h.top }
    bounded (suc (suc (suc (suc k)))) g = absurd (omega arith)

pub box_in : (b : BoundingBox) {p p₁ m m₁ : List ℕ} → RingIn (edges b) four p p₁ m m₁ → BoxIn b p p₁ m m₁
box_in b {p} {p₁} {m} {m₁} r = record {
  added = subst (λ (l : List Point). PutIn p p₁ (gains_of l) 64) (as_corners b) r.added;
  taken = subst (λ (l : List Point). PutIn m m₁ (losses_of l) 64) (as_corners b) r.taken;
}

-- ---- bounds
module _ (b : BoundingBox) (h : BoundedBox 101 b) where
  pub box_gains : gains_of (corners_of b) ≤ 2 ^ 2973
  box_gains = subst (λ (l : List Point). gains_of l ≤ 2 ^ 2973) (as_corners b) (ring_gains (edges b) four (box_corners b h))

  pub box_losses : losses_of (corners_of b) ≤ 2 ^ 2973
  box_losses = subst (λ (l : List Point). losses_of l ≤ 2 ^ 2973) (as_corners b) (ring_losses (edges b) four (box_corners b h))

  -- from nothing
  module _ {p m : List ℕ} (i : BoxIn b (replicate 94 0) p (replicate 94 0) m) where
    pub box_fits : SumFits p × SumFits m
    box_fits = (summed 4 (lit≤ tt) box_gains i.added, summed 4 (lit≤ tt) box_losses i.taken)

    pub box_over : {r : List ℕ} → LongOf r (amount p - amount m) → LongOf r (box_twice b)
    unfolding box_twice
    box_over {r} o = record {
      value = o.value ∙ ap (λ (x : ℕ). x - amount m) (total_is i.added) ∙ ap (λ (x : ℕ). gains_of (corners_of b) - x) (total_is i.taken);
      settled = o.settled;
      long = o.long;
    }

-- over a power of two
pub limit_is : {l m : List ℕ} {n d : ℕ} → LongOf l n → Divided l m d → LongOf m (n / d)
limit_is {d = d} o v = record { value = v.value ∙ ap (λ (x : ℕ). x / d) o.value; settled = v.settled; long = v.long ∙ o.long }
