-- Theorems: what holds of each corner of a ring, and of every crossing, holds of those of the cut ring (`cut_corners`); and a side leaves a ring alone all of whose corners are within it
-- (`cut_untouched`), corner by corner in the same order.
use Rattle.std.specs.Prelude.{◌≡◌, refl, Bool, true, false, List, [], ◌∷◌, ◌++◌}
use Rattle.std.proofs.Common.{ap}
use Rattle.cutting.specs.cuts.Rings.{At, head_or}
use Rattle.cutting.specs.cuts.Cut.{Side, kept_by, cut_to, cut_by}

module _ {C K : Type 0} (P : C → Type 0) where
  abbrev pub AllCorners : List (At C K) → Type 0
  AllCorners [] = Unit {0}
  AllCorners (v ∷ l) = P v.corner × AllCorners l

  module _ (s : Side C K) (crossing : (p q : C) (k : K) → P (s.meet p q k)) where
    corners_to : (e : C) (l : List (At C K)) → AllCorners l → AllCorners (cut_to s e l)
    corners_to e [] a = tt
    corners_to e (p ∷ r) a = go (s.within p.corner) (s.within (head_or e r)) (cut_to s e r) (corners_to e r a.1)
      where
        go : (x y : Bool) (o : List (At C K)) → AllCorners o → AllCorners (kept_by x y s p (head_or e r) ++ o)
        go true true o h = (a.0, h)
        go true false o h = (a.0, (crossing p.corner (head_or e r) p.on, h))
        go false true o h = (crossing p.corner (head_or e r) p.on, h)
        go false false o h = h

    pub cut_corners : (ring : List (At C K)) → AllCorners ring → AllCorners (cut_by s ring)
    cut_corners [] a = tt
    cut_corners (p ∷ r) a = corners_to p.corner (p ∷ r) a

module _ {C K : Type 0} (s : Side C K) where
  abbrev pub IsWithin : C → Type 0
  IsWithin p = s.within p ≡ true

  next_within : (e : C) → IsWithin e → (l : List (At C K)) → AllCorners IsWithin l → IsWithin (head_or e l)
  next_within e h [] a = h
  next_within e h (v ∷ l) a = a.0

  untouched_to : (e : C) → IsWithin e → (l : List (At C K)) → AllCorners IsWithin l → cut_to s e l ≡ l
  untouched_to e h [] a = refl
  untouched_to e h (p ∷ r) a = rw (a.0, next_within e h r a.1) (ap (◌∷◌ p) (untouched_to e h r a.1))

  pub cut_untouched : (ring : List (At C K)) → AllCorners IsWithin ring → cut_by s ring ≡ ring
  cut_untouched [] a = refl
  cut_untouched (p ∷ r) a = untouched_to p.corner a.0 (p ∷ r) a
