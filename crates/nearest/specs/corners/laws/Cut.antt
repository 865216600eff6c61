-- The tests on the product are those of the definition.
use Rattle.std.specs.Prelude.{◌≡◌, ℕ, true, false, not, T, pos, Float}
use Rattle.std.proofs.Math.Path.{sym}
use borrow.Author.Tests.{not-true, not-false}
use Rattle.std.specs.Float.{fin, binary64}
use Rattle.std.specs.Float.Ieee.{of_int, to_unsigned, lt}
use Rattle.base.specs.common.Binary64.{◌⊠◌}
use Rattle.base.specs.common.laws.And.{holds}
use Rattle.root.specs.Root.{magnitude}
use Rattle.nearest.specs.corners.Tried.{are_units, in_units}

abbrev least : Float
least = fin true 1 (pos 0)

abbrev end : Float
end = fin false 1 (pos 64)

pub in_range : (y : Float) → not (lt least y) ≡ false → not (lt y end) ≡ false → T (lt least y) × T (lt y end)
in_range y h k = (holds (not-false (lt least y) h), holds (not-false (lt y end) k))

module _ (u : ℕ) (x : Float) where
  abbrev product : Float
  product = magnitude x ⊠ of_int binary64 (pos u)

  pub low : not (lt least product) ≡ true → false ≡ in_units u x
  unfolding in_units
  low h = rw (not-true (lt least product) h)

  module _ (h : not (lt least product) ≡ false) where
    pub high : not (lt product end) ≡ true → false ≡ in_units u x
    unfolding in_units
    high k = rw (not-false (lt least product) h, not-true (lt product end) k)

    pub cut_is : not (lt product end) ≡ false → are_units u (to_unsigned 64 product) (magnitude x) ≡ in_units u x
    unfolding in_units
    cut_is k = sym (rw (not-false (lt least product) h, not-false (lt product end) k))
