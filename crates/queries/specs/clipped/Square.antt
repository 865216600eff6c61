-- Rows: neighbours by computation, before and after clipping: on "square" all; on a triangle whose cells share no vertex none; and where the first or
-- the last is dropped. The cells are those that the source builds, but for the last two rows, where sites 1 and 3 of "square" have cells of their own.
use Rattle.std.specs.Prelude.{◌≡◌, refl, List, [], ◌∷◌, ℕ}
use Rattle.base.specs.common.Count.{same}
use Rattle.base.specs.numbers.Numbers.{EMPTY}
use Rattle.mesh.specs.Mesh.{next_of, chosen, table_to, turn_of, walk_of}
use Rattle.walks.specs.shared.Cells.{cell_of, shared_of, share_edge_of}
use Rattle.mesh.specs.Square.{tri, he, table}
use Rattle.walks.specs.neighbours.Neighbours.{last_end, starts_of, neighbours_of}
use Rattle.queries.specs.clipped.Clipped.{kept_of, clipped_from, clipped_first, clipped_of, clipped_neighbours_of}

abbrev off : List ℕ
off = 0 ∷ 5 ∷ 9 ∷ 14 ∷ 18 ∷ []

abbrev ix : List ℕ
ix = 1 ∷ 10 ∷ 2 ∷ 11 ∷ 0 ∷ 0 ∷ 11 ∷ 3 ∷ 12 ∷ 0 ∷ 12 ∷ 4 ∷ 13 ∷ 1 ∷ 1 ∷ 13 ∷ 5 ∷ 10 ∷ []

-- cell 3 alone, and cells 1 and 3, with no entry of another
abbrev apart : List ℕ
apart = 1 ∷ 10 ∷ 2 ∷ 11 ∷ 0 ∷ 0 ∷ 11 ∷ 3 ∷ 12 ∷ 0 ∷ 12 ∷ 4 ∷ 13 ∷ 1 ∷ 14 ∷ 15 ∷ 16 ∷ 17 ∷ []

abbrev both : List ℕ
both = 1 ∷ 10 ∷ 2 ∷ 11 ∷ 0 ∷ 18 ∷ 19 ∷ 20 ∷ 21 ∷ 0 ∷ 12 ∷ 4 ∷ 13 ∷ 1 ∷ 14 ∷ 15 ∷ 16 ∷ 17 ∷ []

-- the triangle 2 0 1 of sites (.3515625,0) (.6875,-.4296875) (0,.3125) in the box 0 0 2 2
abbrev lone : List ℕ
lone = 2 ∷ 0 ∷ 1 ∷ []

abbrev unpaired : List ℕ
unpaired = EMPTY ∷ EMPTY ∷ EMPTY ∷ []

abbrev left : List ℕ
left = table_to lone unpaired 3 3

abbrev cuts : List ℕ
cuts = 0 ∷ 5 ∷ 8 ∷ 12 ∷ []

abbrev list : List ℕ
list = 12 ∷ 13 ∷ 14 ∷ 15 ∷ 3 ∷ 8 ∷ 9 ∷ 4 ∷ 10 ∷ 11 ∷ 1 ∷ 2 ∷ []

pub rows :
    (neighbours_of tri he table 0 ≡ 3 ∷ 2 ∷ 1 ∷ [])
    × (clipped_neighbours_of tri he table off ix 0 ≡ 3 ∷ 2 ∷ 1 ∷ [])
    × (clipped_neighbours_of lone unpaired left cuts list 0 ≡ [])
    × (clipped_neighbours_of lone unpaired left cuts list 1 ≡ [])
    × (clipped_neighbours_of lone unpaired left cuts list 2 ≡ [])
    × (clipped_neighbours_of tri he table off apart 0 ≡ 2 ∷ 1 ∷ [])
    × (clipped_neighbours_of tri he table off both 0 ≡ 2 ∷ [])
unfolding same next_of chosen table_to turn_of walk_of cell_of shared_of share_edge_of last_end starts_of neighbours_of kept_of clipped_from clipped_first clipped_of clipped_neighbours_of
rows = (refl, refl, refl, refl, refl, refl, refl)
