-- The neighbours of a site: the start sites along its walk, and on the hull the last end too.
use Rattle.std.specs.Prelude.{ℕ, List, [], ◌∷◌, eqb, get_or}
use Rattle.base.specs.common.Pick.{pick}
use Rattle.base.specs.numbers.Numbers.{EMPTY}
use Rattle.mesh.specs.Mesh.{next_of, start_of, end_of, around, whole_of}

-- after the walk's last half-edge: where the next one is unpaired, its end
unfoldable pub last_end : List ℕ → List ℕ → ℕ → List ℕ
last_end tri he e = pick (eqb (around he e) EMPTY) (λ _. end_of tri (next_of e) ∷ []) (λ _. [])

unfoldable pub starts_of : List ℕ → List ℕ → List ℕ → List ℕ
starts_of tri he [] = []
starts_of tri he (e ∷ []) = start_of tri e ∷ last_end tri he e
starts_of tri he (e ∷ f ∷ es) = start_of tri e ∷ starts_of tri he (f ∷ es)

-- table is the leftmost table; a site in no triangle has EMPTY there, an empty walk and no neighbour
unfoldable pub neighbours_of : List ℕ → List ℕ → List ℕ → ℕ → List ℕ
neighbours_of tri he table s = starts_of tri he (whole_of he (get_or table s 0))
