-- Rows: the neighbours of all sites of "square" by computation, with no cells lent and with the cells of its build: the same lists, and where each begins.
use Rattle.std.specs.Prelude.{◌≡◌, refl, List, [], ◌∷◌, ℕ}
use Rattle.base.specs.common.Count.{same}
use Rattle.mesh.specs.Mesh.{next_of, chosen, table_to, turn_of, walk_of}
use Rattle.mesh.specs.Square.{tri, he, table}
use Rattle.walks.specs.shared.Cells.{cell_of, shared_of, share_edge_of}
use Rattle.walks.specs.neighbours.Neighbours.{last_end, starts_of}
use Rattle.queries.specs.clipped.Clipped.{kept_of, clipped_from, clipped_first, clipped_of}
use Rattle.cell_memory.specs.layout.Regions.{joined, offsets_from}
use Rattle.queries.specs.all_neighbours.Lists.{list_from, list_of, lists_to}

abbrev cuts : List ℕ
cuts = 0 ∷ 5 ∷ 9 ∷ 14 ∷ 18 ∷ []

abbrev entries : List ℕ
entries = 1 ∷ 10 ∷ 2 ∷ 11 ∷ 0 ∷ 0 ∷ 11 ∷ 3 ∷ 12 ∷ 0 ∷ 12 ∷ 4 ∷ 13 ∷ 1 ∷ 1 ∷ 13 ∷ 5 ∷ 10 ∷ []

abbrev lists : List ℕ → List ℕ → List (List ℕ)
lists off ix = lists_to (list_of tri he table off ix) 4

pub rows :
    (offsets_from 0 (lists [] []) ≡ 0 ∷ 3 ∷ 5 ∷ 8 ∷ 10 ∷ [])
    × (joined (lists [] []) ≡ 3 ∷ 2 ∷ 1 ∷ 0 ∷ 2 ∷ 1 ∷ 0 ∷ 3 ∷ 2 ∷ 0 ∷ [])
    × (joined (lists cuts entries) ≡ 3 ∷ 2 ∷ 1 ∷ 0 ∷ 2 ∷ 1 ∷ 0 ∷ 3 ∷ 2 ∷ 0 ∷ [])
unfolding same next_of chosen table_to turn_of walk_of cell_of shared_of share_edge_of last_end starts_of kept_of clipped_from clipped_first clipped_of joined offsets_from list_from lists_to
rows = (refl, refl, refl)
