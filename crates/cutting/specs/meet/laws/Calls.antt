-- A crossing by its carrier, as the code finds it.
use Rattle.std.specs.Prelude.{◌≡◌, Bool, List, ℕ, Float}
use Rattle.std.proofs.Math.Path.{refl}
use Rattle.std.proofs.Math.Bool.{true, false, cond}
use Rattle.plane.specs.declared.points.Point.{Point}
use Rattle.plane.specs.declared.boxes.BoundingBox.{BoundingBox}
use Rattle.cutting.specs.corner.Corner.{coordinate, on_side, near, line_end, upper_end, meet_of}
use Rattle.cutting.specs.declared.corner.SideName.{SideName}
use Rattle.cutting.specs.declared.corner.SideName.TheVariants.{Left, Top, Right, Bottom}
use Rattle.cutting.specs.declared.corner.Corner.{Corner}
use Rattle.cutting.specs.declared.corner.Carrier.{Carrier}
use Rattle.cutting.specs.declared.corner.Carrier.TheVariants.{Bisector, Along, Infinity}
use Rattle.cutting.specs.meet.Crossing.{crossed_at, upward_of, line_meet, crossings_of}

module _ (b : BoundingBox) (sites : List Float) (s : SideName) (p q : Corner) where
  pub meet_bisector : {k : Carrier} {i j : ℕ} {t : Float} {m : Point} {r : Corner} → k ≡ Bisector i j → t ≡ crossed_at b sites s i j p q → m ≡ on_side b s t → r ≡ near m
      → r ≡ meet_of b (crossings_of b sites) s p q k
  meet_bisector e f g h = rw (h, g, f, e) refl

  pub meet_along : {k : Carrier} {o : SideName} {t : Float} {m : Point} {r : Corner} → k ≡ Along o → t ≡ coordinate b o → m ≡ on_side b s t → r ≡ near m
      → r ≡ meet_of b (crossings_of b sites) s p q k
  meet_along e f g h = rw (h, g, f, e) refl

  pub meet_infinity : {k : Carrier} {u : Bool} {r : Corner} → k ≡ Infinity → u ≡ upward_of p q → r ≡ line_meet b s u → r ≡ meet_of b (crossings_of b sites) s p q k
  unfolding line_meet
  meet_infinity e f g = rw (g, f, e) (by_side s)
    where
      at_left : (u : Bool) → line_meet b Left u ≡ cond u (upper_end b) (line_end b Left)
      at_left true = refl
      at_left false = refl

      by_side : (s : SideName) → line_meet b s (upward_of p q) ≡ meet_of b (crossings_of b sites) s p q Infinity
      by_side Left = at_left (upward_of p q)
      by_side Top = refl
      by_side Right = refl
      by_side Bottom = refl
