-- The third fault: a corner of the piece of a site is nearer to another site, by the bisector, in floats and in this order of operations. Definitions only.
use Rattle.std.specs.Prelude.{Bool, ◌&&◌, List, ℕ, ◌-◌, ◌*◌, ◌/◌, ◌^◌, eqb, Float, length, get_or}
use Rattle.std.specs.Float.{binary64}
use Rattle.std.specs.Float.Ieee.{of_bits, lt}
use Rattle.base.specs.common.Binary64.{◌⊞◌, ◌⊟◌, ◌⊠◌}
use Rattle.base.specs.common.Pick.{pick}
use Rattle.ring_area.specs.lowest.Lowest.{any_below}
use Rattle.root.specs.Root.{magnitude}
use Rattle.plane.specs.points.Flat.{point_at}
use Rattle.plane.specs.declared.points.Point.{Point}
use Rattle.plane.specs.boxes.Box.{width_of, height_of}
use Rattle.plane.specs.declared.boxes.BoundingBox.{BoundingBox}
use Rattle.walks.specs.shared.Cells.{cell_of}

-- 2 ^ -bits
unfoldable pub tolerance_of : ℕ → Float
tolerance_of bits = of_bits binary64 ((1023 - bits) * 2 ^ 52)

-- of the box's width and height together
unfoldable pub far_of : BoundingBox → ℕ → Float
far_of b bits = (width_of b ⊞ height_of b) ⊠ tolerance_of bits

-- |v - s|^2 - |v - o|^2, and what it may be
unfoldable pub beyond : Float → Point → Point → Point → Bool
beyond far v s o =
    lt (far ⊠ (magnitude (o.x ⊟ s.x) ⊞ magnitude (o.y ⊟ s.y)))
    ((o.x ⊟ s.x) ⊠ ((v.x ⊟ s.x) ⊞ (v.x ⊟ o.x)) ⊞ (o.y ⊟ s.y) ⊠ ((v.y ⊟ s.y) ⊞ (v.y ⊟ o.y)))

-- ---- the sites that a piece is held against: all where there are no lists
unfoldable pub no_lists : List ℕ → List ℕ → Bool
no_lists starts others = eqb (length starts) 0 && eqb (length others) 0

unfoldable pub other_at : Bool → List ℕ → ℕ → ℕ
other_at all part j = pick all (λ _. j) (λ _. get_or part j 0)

unfoldable pub held_count : Bool → List ℕ → ℕ → ℕ
held_count all part n = pick all (λ _. n) (λ _. length part)

-- ---- the corner against place j of these, against all of them; corner k of a ring; the ring; the piece of site s
unfoldable pub beyond_at : Float → Point → List Float → ℕ → List ℕ → Bool → ℕ → Bool
beyond_at far corner sites s part all j = beyond far corner (point_at sites s) (point_at sites (other_at all part j))

unfoldable pub nearer_at : Float → Point → List Float → ℕ → List ℕ → Bool → Bool
nearer_at far corner sites s part all = any_below (beyond_at far corner sites s part all) (held_count all part (length sites / 2))

unfoldable pub corner_nearer : Float → List Float → ℕ → List ℕ → Bool → List Float → List ℕ → ℕ → Bool
corner_nearer far sites s part all v cell k = nearer_at far (point_at v (get_or cell k 0)) sites s part all

unfoldable pub cell_nearer : Float → List Float → ℕ → List ℕ → Bool → List Float → List ℕ → Bool
cell_nearer far sites s part all v cell = any_below (corner_nearer far sites s part all v cell) (length cell)

unfoldable pub site_nearer : Float → List Float → List ℕ → List ℕ → List Float → List ℕ → List ℕ → ℕ → Bool
site_nearer far sites starts others v off ix s = cell_nearer far sites s (cell_of starts others s) (no_lists starts others) v (cell_of off ix s)
