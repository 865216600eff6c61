-- The hull: distinct sites, each with an unpaired half-edge to the next, and no unpaired half-edge besides.
use Rattle.std.specs.Prelude.{◌≡◌, List, ◌≢◌, ℕ, zero, suc, ◌+◌, ◌<◌, eqb, length, get_or}
use Rattle.base.specs.common.Pick.{pick}
use Rattle.base.specs.common.Count.{same}
use Rattle.base.specs.numbers.Numbers.{EMPTY}
use Rattle.mesh.specs.Mesh.{start_of, end_of, pair_of}

-- the place after place i, cyclically
unfoldable pub next_place : ℕ → ℕ → ℕ
next_place h i = pick (eqb (i + 1) h) (λ _. 0) (λ _. i + 1)

-- the site at the place after place i
abbrev pub next_site : List ℕ → ℕ → ℕ
next_site hull i = get_or hull (next_place (length hull) i) 0

-- an unpaired half-edge below n from site a to site b
abbrev pub OpenEdge : List ℕ → List ℕ → ℕ → ℕ → ℕ → Type 0
OpenEdge tri he n a b = (e : ℕ) × (e < n) × (pair_of he e ≡ EMPTY) × (start_of tri e ≡ a) × (end_of tri e ≡ b)

-- how many of the half-edges below n are unpaired
unfoldable pub open_to : List ℕ → ℕ → ℕ
open_to he zero = 0
open_to he (suc e) = open_to he e + same (pair_of he e) EMPTY

-- the site at place i is one, and stands at no earlier place
abbrev pub FreshAt : List ℕ → ℕ → ℕ → Type 0
FreshAt hull sites i = (get_or hull i 0 < sites) × ((j : ℕ) → j < i → get_or hull j 0 ≢ get_or hull i 0)

abbrev pub EdgeAt : List ℕ → List ℕ → List ℕ → ℕ → Type 0
EdgeAt tri he hull i = OpenEdge tri he (length he) (get_or hull i 0) (next_site hull i)

pub record Hull (tri he hull : List ℕ) (sites : ℕ) : Type 0 where
  pub fresh : (i : ℕ) → i < length hull → FreshAt hull sites i
  pub edges : (i : ℕ) → i < length hull → EdgeAt tri he hull i
  pub count : open_to he (length he) ≡ length hull

-- the site at place i is sound: it is fresh there and has an unpaired half-edge to the next
abbrev pub PlaceAt : List ℕ → List ℕ → List ℕ → ℕ → ℕ → Type 0
PlaceAt tri he hull sites i = FreshAt hull sites i × EdgeAt tri he hull i

-- half-edge e runs from a site of the hull to the next
abbrev pub OnHull : List ℕ → List ℕ → ℕ → Type 0
OnHull tri hull e = (i : ℕ) × (i < length hull) × (start_of tri e ≡ get_or hull i 0) × (end_of tri e ≡ next_site hull i)

-- no lower unpaired half-edge runs between the same sites
abbrev pub Alone : List ℕ → List ℕ → ℕ → Type 0
Alone tri he e = (d : ℕ) → d < e → pair_of he d ≡ EMPTY → start_of tri d ≡ start_of tri e → end_of tri d ≡ end_of tri e → ⊥

-- half-edge e is paired, or runs along a pair of the hull and shares it with no lower one
abbrev pub BorderAt : List ℕ → List ℕ → List ℕ → ℕ → Type 0
BorderAt tri he hull e = pair_of he e ≡ EMPTY → OnHull tri hull e × Alone tri he e
