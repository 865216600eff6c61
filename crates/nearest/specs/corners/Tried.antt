-- Whether a point is an admitted destination (AdmittedPoint of crate nearest_laws), as a test that computes; the lowest corner of a box that is none. Definitions only.
use Rattle.std.specs.Prelude.{ℕ, ◌-◌, ◌*◌, ◌^◌, Bool, true, false, not, ◌&&◌, pos, nat_lt, slice_index_or, Float}
use Rattle.std.specs.Float.{nan, fin, binary64}
use Rattle.std.specs.Float.Ieee.{of_int, to_unsigned, lt, eq}
use Rattle.base.specs.common.Binary64.{◌⊠◌, ◌⊘◌}
use Rattle.base.specs.common.Pick.{pick}
use Rattle.root.specs.Root.{magnitude}
use Rattle.ring_area.specs.lowest.Lowest.{lowest, any_below}
use Rattle.plane.specs.points.Plane.{at}
use Rattle.plane.specs.declared.points.Point.{Point}
use Rattle.plane.specs.boxes.Box.{corners_of}
use Rattle.plane.specs.declared.boxes.BoundingBox.{BoundingBox}

-- v units of 1 / u are m, and so few that v + 8,192 u is below 2^26
unfoldable pub are_units : ℕ → ℕ → Float → Bool
are_units u v m = pick (nat_lt v (67108864 - 8192 * u)) (λ _. eq (of_int binary64 (pos v) ⊘ of_int binary64 (pos u)) m) (λ _. false)

-- x is such a number: v is sought by cutting, where the product is a number of 64 bits
unfoldable pub in_units : ℕ → Float → Bool
in_units u x =
    let m = magnitude x in
    let y = m ⊠ of_int binary64 (pos u) in
    pick (lt (fin true 1 (pos 0)) y) (λ _. pick (lt y (fin false 1 (pos 64))) (λ _. are_units u (to_unsigned 64 y) m) (λ _. false)) (λ _. false)

abbrev pub in_both : ℕ → Point → Bool
in_both u p = in_units u p.x && in_units u p.y

-- in units of 1 down to 1 / 4,096: no number is so few of smaller ones
abbrev pub admitted : Point → Bool
admitted p = any_below (λ k. in_both (2 ^ k) p) 13

-- the lowest corner that is not admitted, or 4
abbrev pub off_corner : BoundingBox → ℕ
off_corner b = lowest (λ c. not (admitted (slice_index_or (corners_of b) c (at nan nan)))) 4
