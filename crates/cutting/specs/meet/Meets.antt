-- Theorems: what the laws of cutting ask of crossings holds of the library's. A bisector's crossing is the same float from both ends (`crossings_both`), and stays within every side that
-- both ends of the edge are within (`crossings_between`).
use Rattle.std.specs.Prelude.{◌≡◌, refl, Bool, List, ℕ, Float}
use Rattle.std.proofs.Common.{sym, ◌∙◌}
use Rattle.std.proofs.Math.Bool.{true, false}
use Rattle.std.specs.Float.Ieee.{le}
use Rattle.base.specs.common.Binary64.{zero}
use Rattle.base.specs.common.Pick.{pick}
use Rattle.plane.specs.points.Flat.{point_at}
use Rattle.plane.specs.declared.boxes.BoundingBox.{BoundingBox}
use Rattle.cutting.specs.corner.Corner.{within_of, on_side, near}
use Rattle.cutting.specs.declared.corner.SideName.{SideName}
use Rattle.cutting.specs.declared.corner.SideName.TheVariants.{Left, Top, Right, Bottom}
use Rattle.cutting.specs.declared.corner.Corner.{Corner}
use Rattle.cutting.specs.sides.Kept.{Ordered}
use Rattle.cutting.specs.sides.laws.Keeping.{lt_le}
use Rattle.cutting.specs.sides.Exact.{BothWays}
use Rattle.cutting.specs.sides.Inside.{Between}
use Rattle.cutting.specs.meet.Crossing.{reach_of, bounded_of, cross_from, cross_by, crossed_at, crossings_of}
use Rattle.cutting.specs.meet.laws.Compare.{lower_number, upper_number}
use Rattle.cutting.specs.meet.laws.Bounded.{bounded_past, bounded_before, reach_past, reach_before}

pub crossings_both : (b : BoundingBox) (sites : List Float) → BothWays (crossings_of b sites)
unfolding cross_by
crossings_both b sites s i j p q = go (within_of b s p) (within_of b s q)
  where
    from : Corner → Corner → Float
    from = cross_from b s (point_at sites i) (point_at sites j)

    go : (u v : Bool) → pick u (λ _. pick v (λ _. zero) (λ _. from p q)) (λ _. pick v (λ _. from q p) (λ _. zero))
        ≡ pick v (λ _. pick u (λ _. zero) (λ _. from q p)) (λ _. pick u (λ _. from p q) (λ _. zero))
    go true true = refl
    go true false = refl
    go false true = refl
    go false false = refl

module _ (b : BoundingBox) (sites : List Float) (ordered : Ordered b) where
  -- what holds of whatever is bounded by both ends' reaches holds of a crossing
  crossed : (P : Float → Type 0) (s : SideName) (i j : ℕ) (p q : Corner) → (within_of b s p ≡ within_of b s q → ⊥)
      → ((t : Float) → P (bounded_of (reach_of s p) (reach_of s q) t)) → ((t : Float) → P (bounded_of (reach_of s q) (reach_of s p) t)) → P (crossed_at b sites s i j p q)
  unfolding cross_by cross_from
  crossed P s i j p q apart f g = go (within_of b s p) (within_of b s q) apart
    where
      go : (u v : Bool) → (u ≡ v → ⊥) → P (pick u (λ _. pick v (λ _. zero) (λ _. cross_from b s (point_at sites i) (point_at sites j) p q))
          (λ _. pick v (λ _. cross_from b s (point_at sites i) (point_at sites j) q p) (λ _. zero)))
      go true true n = absurd (n refl)
      go true false n = f _
      go false true n = g _
      go false false n = absurd (n refl)

  -- past a side to the left or at the top that both ends are within, and before one to the right or at the bottom
  past : (s : SideName) (c : Float) (i j : ℕ) (p q : Corner) → (within_of b s p ≡ within_of b s q → ⊥) → le c (reach_of s p) ≡ true → le c (reach_of s q) ≡ true
      → le c (crossed_at b sites s i j p q) ≡ true
  past s c i j p q apart u v =
      crossed (λ x. le c x ≡ true) s i j p q apart (λ t. bounded_past c (reach_of s p) (reach_of s q) t u v) (λ t. bounded_past c (reach_of s q) (reach_of s p) t v u)

  before : (s : SideName) (c : Float) (i j : ℕ) (p q : Corner) → (within_of b s p ≡ within_of b s q → ⊥) → le (reach_of s p) c ≡ true → le (reach_of s q) c ≡ true
      → le (crossed_at b sites s i j p q) c ≡ true
  before s c i j p q apart u v =
      crossed (λ x. le x c ≡ true) s i j p q apart (λ t. bounded_before c (reach_of s p) (reach_of s q) t u v) (λ t. bounded_before c (reach_of s q) (reach_of s p) t v u)

  wide : le b.left b.right ≡ true
  wide = lt_le b.left b.right ordered.across

  tall : le b.top b.bottom ≡ true
  tall = lt_le b.top b.bottom ordered.down

  from_left : (p : Corner) → within_of b Left p ≡ true → le b.left (reach_of Top p) ≡ true
  from_left p = reach_past p.far p.toward.x b.left p.place.x (lower_number b.left b.right wide)

  to_right : (p : Corner) → within_of b Right p ≡ true → le (reach_of Top p) b.right ≡ true
  to_right p = reach_before p.far p.toward.x b.right p.place.x (upper_number b.left b.right wide)

  from_top : (p : Corner) → within_of b Top p ≡ true → le b.top (reach_of Left p) ≡ true
  from_top p = reach_past p.far p.toward.y b.top p.place.y (lower_number b.top b.bottom tall)

  to_bottom : (p : Corner) → within_of b Bottom p ≡ true → le (reach_of Left p) b.bottom ≡ true
  to_bottom p = reach_before p.far p.toward.y b.bottom p.place.y (upper_number b.top b.bottom tall)

  between : (s o : SideName) (i j : ℕ) (p q : Corner) → within_of b o p ≡ true → within_of b o q ≡ true → (within_of b s p ≡ within_of b s q → ⊥)
      → within_of b o (near (on_side b s (crossed_at b sites s i j p q))) ≡ true
  between Left Left i j p q u v d = absurd (d (u ∙ sym v))
  between Left Top i j p q u v d = past Left b.top i j p q d (from_top p u) (from_top q v)
  between Left Right i j p q u v d = wide
  between Left Bottom i j p q u v d = before Left b.bottom i j p q d (to_bottom p u) (to_bottom q v)
  between Top Left i j p q u v d = past Top b.left i j p q d (from_left p u) (from_left q v)
  between Top Top i j p q u v d = absurd (d (u ∙ sym v))
  between Top Right i j p q u v d = before Top b.right i j p q d (to_right p u) (to_right q v)
  between Top Bottom i j p q u v d = tall
  between Right Left i j p q u v d = wide
  between Right Top i j p q u v d = past Right b.top i j p q d (from_top p u) (from_top q v)
  between Right Right i j p q u v d = absurd (d (u ∙ sym v))
  between Right Bottom i j p q u v d = before Right b.bottom i j p q d (to_bottom p u) (to_bottom q v)
  between Bottom Left i j p q u v d = past Bottom b.left i j p q d (from_left p u) (from_left q v)
  between Bottom Top i j p q u v d = tall
  between Bottom Right i j p q u v d = before Bottom b.right i j p q d (to_right p u) (to_right q v)
  between Bottom Bottom i j p q u v d = absurd (d (u ∙ sym v))

  pub crossings_between : Between b (crossings_of b sites)
  crossings_between = record { between = between }
