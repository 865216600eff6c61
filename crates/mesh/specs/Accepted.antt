-- A mesh that is accepted: the limits on the counts, the rule on coordinates, and the rules on triangles, pairing, hull and fan (docs/use/RULES.md).
use Rattle.std.specs.Prelude.{◌≡◌, List, ℕ, ◌/◌, ◌%◌, ◌≤◌, ◌<◌, length, Float}
use Rattle.plane.specs.points.Sites.{KeptAt}
use Rattle.base.specs.numbers.Numbers.{EMPTY}
use Rattle.mesh.specs.Mesh.{AllSound, AllPaired, leftmost_of, Fan}
use Rattle.mesh.specs.Hull.{Hull}

-- a lent mesh: numbers x and y of each site in turn, three sites and three pairs of half-edges for each triangle, the hull's sites
pub record Mesh : Type 0 where
  pub sites : List Float
  pub triangles : List ℕ
  pub halfedges : List ℕ
  pub hull : List ℕ

abbrev pub mesh : List Float → List ℕ → List ℕ → List ℕ → Mesh
mesh sites tri he hull = record { sites = sites; triangles = tri; halfedges = he; hull = hull }

-- the lengths of the lists of coordinates, triangle entries, half-edges and hull sites
pub record Counted (coordinates entries halfedges hull : ℕ) : Type 0 where
  pub even : coordinates % 2 ≡ 0
  pub three_sites : 3 ≤ coordinates / 2
  pub few_sites : coordinates / 2 ≤ 65536
  pub threes : entries % 3 ≡ 0
  pub one_triangle : 1 ≤ entries / 3
  pub few_triangles : entries / 3 ≤ 131072
  pub same : halfedges ≡ entries
  pub three_on_hull : 3 ≤ hull
  pub hull_of_sites : hull ≤ coordinates / 2

-- a lent list of coordinates holds half as many sites
abbrev pub site_count : List Float → ℕ
site_count sites = length sites / 2

-- its leftmost table
abbrev pub table_of : Mesh → List ℕ
table_of m = leftmost_of m.triangles m.halfedges (site_count m.sites)

-- a mesh that rules 7 to 9 accept, its lists of fitting lengths; and what is known of its fans
pub record TopologyWith (Fans : Type 0) (tri he hull : List ℕ) (sites : ℕ) : Type 0 where
  pub threes : length tri % 3 ≡ 0
  pub same : length he ≡ length tri
  pub small : length tri < EMPTY
  pub sound : AllSound tri sites
  pub pairs : AllPaired tri he
  pub border : Hull tri he hull sites
  pub fan : Fans

-- rules 7 to 9 alone
abbrev pub OutlinedTopology : List ℕ → List ℕ → List ℕ → ℕ → Type 0
OutlinedTopology tri he hull sites = TopologyWith (Unit {0}) tri he hull sites

-- rules 7 to 10
abbrev pub Topology : List ℕ → List ℕ → List ℕ → ℕ → Type 0
Topology tri he hull sites = TopologyWith (Fan tri he (leftmost_of tri he sites)) tri he hull sites

-- rules 1, 6 and 7 to 9, and what is known of the fans
pub record AcceptedWith (Fans : Type 0) (m : Mesh) : Type 0 where
  pub counts : Counted (length m.sites) (length m.triangles) (length m.halfedges) (length m.hull)
  pub coordinates : (s : ℕ) → s < site_count m.sites → KeptAt m.sites s
  pub topology : TopologyWith Fans m.triangles m.halfedges m.hull (site_count m.sites)

-- rules 1, 6 and 7 to 9 alone
abbrev pub Outlined : Mesh → Type 0
Outlined m = AcceptedWith (Unit {0}) m

-- rules 1, 6 and 7 to 10
abbrev pub Accepted : Mesh → Type 0
Accepted m = AcceptedWith (Fan m.triangles m.halfedges (table_of m)) m
