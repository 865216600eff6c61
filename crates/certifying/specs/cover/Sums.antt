-- Sums over the sides of rings: a side is two corners one after the other, the last and the first included. Definitions only.
use Rattle.std.specs.Prelude.{List, [], ◌∷◌, ℕ, ◌+◌}

pub record WholePlace : Type 0 where
  pub x : ℕ
  pub y : ℕ

abbrev pub OfSide : Type 0
OfSide = WholePlace → WholePlace → ℕ

-- from p on and back to a; a ring; all rings
unfoldable pub sum_from : OfSide → WholePlace → WholePlace → List WholePlace → ℕ
sum_from f a p [] = f p a
sum_from f a p (q ∷ r) = f p q + sum_from f a q r

unfoldable pub sum_ring : OfSide → List WholePlace → ℕ
sum_ring f [] = 0
sum_ring f (p ∷ r) = sum_from f p p r

unfoldable pub sum_all : OfSide → List (List WholePlace) → ℕ
sum_all f [] = 0
sum_all f (r ∷ rs) = sum_ring f r + sum_all f rs

-- of every corner of a ring
abbrev pub EveryCorner : (WholePlace → Type 0) → List WholePlace → Type 0
EveryCorner P [] = Unit {0}
EveryCorner P (p ∷ r) = P p × EveryCorner P r
