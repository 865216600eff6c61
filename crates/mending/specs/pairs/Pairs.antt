-- The pairs of a mesh, worked out from its triangles alone: a half-edge is paired with the one that runs the other way between the same sites, if
-- there is one; and rule 19.
use Rattle.std.specs.Prelude.{◌≡◌, List, [], ◌∷◌, ◌++◌, Bool, ◌&&◌, ℕ, zero, suc, ◌<◌, eqb, length}
use Rattle.base.specs.common.Pick.{pick}
use Rattle.base.specs.numbers.Numbers.{EMPTY}
use Rattle.mesh.specs.Mesh.{start_of, end_of}

-- half-edge d runs the other way between the sites of e
abbrev pub Reverse : List ℕ → ℕ → ℕ → Type 0
Reverse tri e d = (start_of tri d ≡ end_of tri e) × (end_of tri d ≡ start_of tri e)

abbrev pub reverses : List ℕ → ℕ → ℕ → Bool
reverses tri e d = eqb (start_of tri d) (end_of tri e) && eqb (end_of tri d) (start_of tri e)

-- the half-edge below n that runs the other way, the last if there are several; EMPTY where there is none
unfoldable pub mate_to : List ℕ → ℕ → ℕ → ℕ
mate_to tri e zero = EMPTY
mate_to tri e (suc d) = pick (reverses tri e d) (λ _. d) (λ _. mate_to tri e d)

abbrev pub mate_of : List ℕ → ℕ → ℕ
mate_of tri e = mate_to tri e (length tri)

-- the pairs of the half-edges below n
unfoldable pub pairs_to : List ℕ → ℕ → List ℕ
pairs_to tri zero = []
pairs_to tri (suc e) = pairs_to tri e ++ mate_of tri e ∷ []

abbrev pub pairs_of : List ℕ → List ℕ
pairs_of tri = pairs_to tri (length tri)

-- no lower half-edge runs the same way between the same sites
abbrev pub SingleAt : List ℕ → ℕ → Type 0
SingleAt tri e = (d : ℕ) → d < e → start_of tri d ≡ start_of tri e → end_of tri d ≡ end_of tri e → ⊥

-- rule 19: each ordered pair of sites has at most one half-edge
abbrev pub AllSingle : List ℕ → Type 0
AllSingle tri = (e : ℕ) → e < length tri → SingleAt tri e
