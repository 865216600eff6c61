-- What is left of a site's neighbours where the walk has passed a half-edge.
use Rattle.std.specs.Prelude.{◌≡◌, refl, ℕ, List, [], ◌∷◌}
use Rattle.std.proofs.Common.{ap}
use Rattle.mesh.specs.Mesh.{start_of}
use Rattle.walks.specs.neighbours.Neighbours.{last_end, starts_of}

-- what is left of them where the walk has passed l, and es is still to come
unfoldable pub sites_from : List ℕ → List ℕ → ℕ → List ℕ → List ℕ
sites_from tri he l [] = last_end tri he l
sites_from tri he l (e ∷ es) = start_of tri e ∷ sites_from tri he e es

pub starts_cons : (tri he : List ℕ) (e : ℕ) (es : List ℕ) → starts_of tri he (e ∷ es) ≡ start_of tri e ∷ sites_from tri he e es
unfolding starts_of sites_from
starts_cons tri he e [] = refl
starts_cons tri he e (f ∷ es) = ap (λ l. start_of tri e ∷ l) (starts_cons tri he f es)
