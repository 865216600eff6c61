-- The neighbours of all sites: a list for each site, by site. Definitions only.
use Rattle.std.specs.Prelude.{Bool, ◌&&◌, List, [], ◌∷◌, ◌++◌, ℕ, zero, suc, eqb, length, get_or}
use Rattle.base.specs.common.Pick.{pick}
use Rattle.mesh.specs.Mesh.{whole_of}
use Rattle.mesh.specs.Accepted.{Mesh, table_of, site_count}
use Rattle.walks.specs.shared.Cells.{share_edge_of}
use Rattle.walks.specs.neighbours.Neighbours.{starts_of}
use Rattle.queries.specs.clipped.Clipped.{clipped_of}

-- no cells are lent: offsets and indexes are both empty
abbrev pub nothing_lent : ℕ → ℕ → Bool
nothing_lent offsets indexes = eqb offsets 0 && eqb indexes 0

-- the neighbours of site s along the walk from half-edge e: after clipping where cells are lent, else all
unfoldable pub list_from : List ℕ → List ℕ → List ℕ → List ℕ → ℕ → ℕ → List ℕ
list_from tri he off ix s e =
    pick (nothing_lent (length off) (length ix)) (λ _. starts_of tri he (whole_of he e)) (λ _. clipped_of tri he (share_edge_of off ix s) (whole_of he e))

-- f of the numbers below n
unfoldable pub lists_to : (ℕ → List ℕ) → ℕ → List (List ℕ)
lists_to f zero = []
lists_to f (suc n) = lists_to f n ++ f n ∷ []

-- the list of site s, table being the leftmost table
abbrev pub list_of : List ℕ → List ℕ → List ℕ → List ℕ → List ℕ → ℕ → List ℕ
list_of tri he table off ix s = list_from tri he off ix s (get_or table s 0)

-- of every site
abbrev pub all_neighbours : Mesh → List ℕ → List ℕ → List (List ℕ)
all_neighbours m off ix = lists_to (list_of m.triangles m.halfedges (table_of m) off ix) (site_count m.sites)
