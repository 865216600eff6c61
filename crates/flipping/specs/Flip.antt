-- Flipping an edge: what becomes of triangles and half-edges, and where it may be done. With a the named half-edge, b its pair, r the half-edge
-- before a and l the one before b: a starts where l starts and takes its pair, b starts where r starts and takes its pair, r and l become a pair.
use Rattle.std.specs.Prelude.{◌≡◌, List, ◌⊎◌, ◌≢◌, ℕ, ◌<◌, eqb, length, set, take}
use Rattle.base.specs.common.Pick.{pick}
use Rattle.base.specs.numbers.Numbers.{EMPTY}
use Rattle.mesh.specs.Mesh.{next_of, start_of, end_of, pair_of, leftmost_of}

-- the half-edge before e in its triangle
abbrev pub before_of : ℕ → ℕ
before_of e = next_of (next_of e)

-- the site opposite half-edge e in its triangle
abbrev pub opposite_of : List ℕ → ℕ → ℕ
opposite_of tri e = start_of tri (before_of e)

-- the triangles: a starts where l does, b where r does
abbrev pub turned_sites : List ℕ → ℕ → ℕ → ℕ → ℕ → List ℕ
turned_sites tri a b r l = set (set tri a (start_of tri l)) b (start_of tri r)

-- the half-edge p, where there is one, names e
unfoldable pub naming : List ℕ → ℕ → ℕ → List ℕ
naming he p e = pick (eqb p EMPTY) (λ _. he) (λ _. set he p e)

-- the four half-edges that get another pair
abbrev pub crossed : List ℕ → ℕ → ℕ → ℕ → ℕ → List ℕ
crossed he a b r l = set (set (set (set he a (pair_of he l)) b (pair_of he r)) r l) l r

-- the half-edges: a takes l's pair and b takes r's, which name them back, and r and l are a pair
abbrev pub relinked : List ℕ → ℕ → ℕ → ℕ → ℕ → List ℕ
relinked he a b r l = naming (naming (crossed he a b r l) (pair_of he l) a) (pair_of he r) b

-- the mesh with half-edge a flipped
abbrev pub flipped_triangles : List ℕ → List ℕ → ℕ → List ℕ
flipped_triangles tri he a = turned_sites tri a (pair_of he a) (before_of a) (before_of (pair_of he a))

abbrev pub flipped_pairs : List ℕ → ℕ → List ℕ
flipped_pairs he a = relinked he a (pair_of he a) (before_of a) (before_of (pair_of he a))

-- a half-edge runs between sites x and y, in either direction
abbrev pub JoinsAt : List ℕ → ℕ → ℕ → ℕ → Type 0
JoinsAt tri x y e = ((start_of tri e ≡ x) × (end_of tri e ≡ y)) ⊎ ((start_of tri e ≡ y) × (end_of tri e ≡ x))

abbrev pub SitesJoined : List ℕ → ℕ → ℕ → Type 0
SitesJoined tri x y = (e : ℕ) × (e < length tri) × JoinsAt tri x y e

-- rule 23: half-edge a may be flipped, and the table's first entries, one for each site, are the leftmost table
pub record Flippable (tri he : List ℕ) (sites : ℕ) (table : List ℕ) (a : ℕ) : Type 0 where
  pub in_range : a < length he
  pub paired : pair_of he a ≢ EMPTY
  pub apart : opposite_of tri a ≢ opposite_of tri (pair_of he a)
  pub unjoined : SitesJoined tri (opposite_of tri a) (opposite_of tri (pair_of he a)) → ⊥
  pub right_table : take sites table ≡ leftmost_of tri he sites
