-- What holds of all places of a ring holds of those that are written.
use Rattle.std.specs.Prelude.{Bool, true, false, List, [], ◌∷◌, ◌++◌}
use Rattle.plane.specs.declared.points.Point.{Point}
use Rattle.plane.specs.declared.boxes.BoundingBox.{BoundingBox}
use Rattle.cutting.specs.cuts.Written.{unrepeated, ends_by, trimmed, three_or_none, backward, written_ring, skip}
use Rattle.cutting.specs.sides.Inside.{WithinBox, AllInBox}

module _ (b : BoundingBox) (same : Point → Point → Bool) where
  unrepeated_in : (p : Point) (l : List Point) → AllInBox b l → AllInBox b (unrepeated same p l)
  unrepeated_in p [] a = tt
  unrepeated_in p (q ∷ r) a = go (same p q) (unrepeated_in p r a.1) (unrepeated_in q r a.1)
    where
      go : (t : Bool) → AllInBox b (unrepeated same p r) → AllInBox b (unrepeated same q r) → AllInBox b (skip t (unrepeated same p r) (q ∷ unrepeated same q r))
      go true u v = u
      go false u v = (a.0, v)

  ends_in_lem : (t : Bool) (q : Point) (l : List Point) → WithinBox b q → AllInBox b l → AllInBox b (ends_by t q l)
  ends_in_lem true q [] w a = tt
  ends_in_lem false q [] w a = (w, tt)
  ends_in_lem true q (z ∷ r) w a = (w, a)
  ends_in_lem false q (z ∷ r) w a = (w, a)

  trimmed_in : (p : Point) (l : List Point) → AllInBox b l → AllInBox b (trimmed same p l)
  trimmed_in p [] a = tt
  trimmed_in p (q ∷ r) a = ends_in_lem (same q p) q (trimmed same p r) a.0 (trimmed_in p r a.1)

  three_in : (l : List Point) → AllInBox b l → AllInBox b (three_or_none l)
  three_in [] a = tt
  three_in (p ∷ []) a = tt
  three_in (p ∷ q ∷ []) a = tt
  three_in (p ∷ q ∷ z ∷ r) a = a

  append_in : (l m : List Point) → AllInBox b l → AllInBox b m → AllInBox b (l ++ m)
  append_in [] m a c = c
  append_in (p ∷ l) m a c = (a.0, append_in l m a.1 c)

  backward_in : (l : List Point) → AllInBox b l → AllInBox b (backward l)
  backward_in [] a = tt
  backward_in (p ∷ r) a = append_in (backward r) (p ∷ []) (backward_in r a.1) (a.0, tt)

  pub written_in : (l : List Point) → AllInBox b l → AllInBox b (written_ring same l)
  written_in [] a = tt
  written_in (p ∷ r) a =
      backward_in (three_or_none (p ∷ trimmed same p (unrepeated same p r)))
      (three_in (p ∷ trimmed same p (unrepeated same p r)) (a.0, trimmed_in p (unrepeated same p r) (unrepeated_in p r a.1)))
