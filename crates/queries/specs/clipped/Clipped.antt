-- The neighbours after clipping: on a hull site the first and the last count only where `keeps` says that the two cells share an edge.
use Rattle.std.specs.Prelude.{Bool, List, [], ◌∷◌, ◌++◌, ℕ, eqb, get_or}
use Rattle.base.specs.common.Pick.{pick}
use Rattle.base.specs.numbers.Numbers.{EMPTY}
use Rattle.mesh.specs.Mesh.{start_of, pair_of, whole_of}
use Rattle.walks.specs.shared.Cells.{share_edge_of}
use Rattle.walks.specs.neighbours.Neighbours.{last_end}

unfoldable pub kept_of : (ℕ → Bool) → List ℕ → List ℕ
kept_of keeps [] = []
kept_of keeps (x ∷ l) = pick (keeps x) (λ _. x ∷ kept_of keeps l) (λ _. kept_of keeps l)

-- what is left of them where the walk has passed l, and es is still to come
unfoldable pub clipped_from : List ℕ → List ℕ → (ℕ → Bool) → ℕ → List ℕ → List ℕ
clipped_from tri he keeps l [] = kept_of keeps (last_end tri he l)
clipped_from tri he keeps l (e ∷ es) = start_of tri e ∷ clipped_from tri he keeps e es

-- the first is judged where its half-edge is unpaired
unfoldable pub clipped_first : List ℕ → List ℕ → (ℕ → Bool) → ℕ → List ℕ
clipped_first tri he keeps e = pick (eqb (pair_of he e) EMPTY) (λ _. kept_of keeps (start_of tri e ∷ [])) (λ _. start_of tri e ∷ [])

unfoldable pub clipped_of : List ℕ → List ℕ → (ℕ → Bool) → List ℕ → List ℕ
clipped_of tri he keeps [] = []
clipped_of tri he keeps (e ∷ es) = clipped_first tri he keeps e ++ clipped_from tri he keeps e es

-- the neighbours of site s after clipping, its cell and its neighbours' cut from ix by off
unfoldable pub clipped_neighbours_of : List ℕ → List ℕ → List ℕ → List ℕ → List ℕ → ℕ → List ℕ
clipped_neighbours_of tri he table off ix s = clipped_of tri he (share_edge_of off ix s) (whole_of he (get_or table s 0))
