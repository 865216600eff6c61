-- Law: places that are the same, one by one, lie in the box where the others do (`each_in`).
use Rattle.std.specs.Prelude.{◌≡◌, refl, Bool, true, false, ◌||◌, List, [], ◌∷◌, Float}
use Rattle.std.proofs.Common.{sym, subst, inl, inr}
use Rattle.std.specs.Float.Ieee.{lt, le, eq}
use Rattle.base.specs.common.laws.And.{and_left, and_right}
use Rattle.plane.specs.declared.points.Point.{Point}
use Rattle.plane.specs.declared.boxes.BoundingBox.{BoundingBox}
use Rattle.cutting.specs.sides.Alike.{StandsFor, SamePlaces}
use Rattle.cutting.specs.sides.Inside.{WithinBox, AllInBox}
use Rattle.cutting.specs.meet.laws.Compare.{le_trans}
use Rattle.cutting_writer.specs.join.laws.Equals.{eq_back}
use Rattle.cutting_laws.specs.fills.laws.Slices.{AllAlike}

pub eq_le : (x y : Float) → eq x y ≡ true → le x y ≡ true
unfolding le
eq_le x y h = rw h (go (lt x y))
  where
    go : (t : Bool) → (t || true) ≡ true
    go true = refl
    go false = refl

module _ (b : BoundingBox) where
  -- each ring lies in the box
  abbrev pub EachInBox : List (List Point) → Type 0
  EachInBox [] = Unit {0}
  EachInBox (p ∷ l) = AllInBox b p × EachInBox l

  same_within : (q p : Point) → StandsFor q p → WithinBox b p → WithinBox b q
  same_within q p (inl e) w = subst (WithinBox b) (sym e) w
  same_within q p (inr h) w =
      let x = and_left (eq p.x q.x) (eq p.y q.y) h in
      let y = and_right (eq p.x q.x) (eq p.y q.y) h in
      record {
        from_left = le_trans b.left p.x q.x w.from_left (eq_le p.x q.x x);
        to_right = le_trans q.x p.x b.right (eq_le q.x p.x (eq_back p.x q.x x)) w.to_right;
        from_top = le_trans b.top p.y q.y w.from_top (eq_le p.y q.y y);
        to_bottom = le_trans q.y p.y b.bottom (eq_le q.y p.y (eq_back p.y q.y y)) w.to_bottom;
      }

  same_in : (m l : List Point) → SamePlaces m l → AllInBox b l → AllInBox b m
  same_in [] [] s a = tt
  same_in [] (p ∷ l) s a = absurd s
  same_in (q ∷ m) [] s a = absurd s
  same_in (q ∷ m) (p ∷ l) s a = (same_within q p s.0 a.0, same_in m l s.1 a.1)

  pub each_in : (m l : List (List Point)) → AllAlike m l → EachInBox l → EachInBox m
  each_in [] [] s a = tt
  each_in [] (p ∷ l) s a = absurd s
  each_in (q ∷ m) [] s a = absurd s
  each_in (q ∷ m) (p ∷ l) s a = (same_in q p s.0 a.0, each_in m l s.1 a.1)
