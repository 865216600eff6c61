-- Rows: three paths on "square", by computation.
use Rattle.std.specs.Prelude.{◌≡◌, refl, [], ◌∷◌}
use Rattle.std.specs.Float.Ieee.{of_bits, neg, add, sub, mul, lt}
use Rattle.base.specs.common.Binary64.{zero, one, minus_one}
use Rattle.mesh.specs.Mesh.{next_of, chosen, table_to, turn_of, walk_of}
use Rattle.plane.specs.points.Plane.{at, dist2_of}
use Rattle.walks.specs.neighbours.Neighbours.{last_end, starts_of, neighbours_of}
use Rattle.walks.specs.paths.Path.{dist_of, nearest_of, hop_of, path_of, path_end}
use Rattle.mesh.specs.Square.{sites, tri, he, table}

pub rows :
    (path_of sites tri he table (at minus_one one) 4 0 ≡ 0 ∷ 1 ∷ [])
    × (path_of sites tri he table (at zero zero) 4 0 ≡ 0 ∷ [])
    × (path_of sites tri he table (at minus_one one) 4 3 ≡ 3 ∷ 2 ∷ 1 ∷ [])
    × (path_end sites tri he table (at minus_one one) 4 3 ≡ 1)
unfolding next_of chosen table_to turn_of walk_of last_end starts_of neighbours_of dist_of nearest_of hop_of path_of path_end dist2_of of_bits neg add sub mul lt
rows = (refl, refl, refl, refl)
