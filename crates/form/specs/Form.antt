-- The form of docs/use/RULES.md: a mesh written record by record. Definitions only.
use Rattle.std.specs.Prelude.{Bool, true, List, [], ◌∷◌, ◌++◌, ◌≡◌, ℕ, ◌^◌, ◌≤◌, ◌<◌, Float, length}
use Rattle.std.specs.Float.{binary64}
use Rattle.std.specs.Float.Ieee.{of_bits}
use Rattle.octets.specs.Bytes.{le, each, All}
use Rattle.form.specs.Limits.{most_sites, most_triangles, most_hull}

-- floats are given by their patterns
pub data Outline : Type 0 where
  box : (x y width height : ℕ) → Outline
  unclipped : Outline
  edges : (left top right bottom : ℕ) → Outline

pub record Site : Type 0 where
  pub x : ℕ
  pub y : ℕ

-- three sites, and the pair of each half-edge that starts there
pub record Triangle : Type 0 where
  pub a : ℕ
  pub b : ℕ
  pub c : ℕ
  pub pair_a : ℕ
  pub pair_b : ℕ
  pub pair_c : ℕ

pub record FormMesh : Type 0 where
  pub clip : Outline
  pub sites : List Site
  pub triangles : List Triangle
  pub hull : List ℕ

-- ---- its bytes

abbrev pub outline_bytes : Outline → List ℕ
outline_bytes (box x y width height) = 1 ∷ le 8 x ++ le 8 y ++ le 8 width ++ le 8 height
outline_bytes unclipped = 6 ∷ []
outline_bytes (edges left top right bottom) = 7 ∷ le 8 left ++ le 8 top ++ le 8 right ++ le 8 bottom

abbrev pub site_bytes : Site → List ℕ
site_bytes s = 2 ∷ le 8 s.x ++ le 8 s.y

abbrev pub triangle_bytes : Triangle → List ℕ
triangle_bytes t = 3 ∷ le 4 t.a ++ le 4 t.b ++ le 4 t.c ++ le 4 t.pair_a ++ le 4 t.pair_b ++ le 4 t.pair_c

abbrev pub hull_bytes : ℕ → List ℕ
hull_bytes h = 4 ∷ le 4 h

unfoldable pub form_of : FormMesh → List ℕ
form_of m = outline_bytes m.clip ++ each site_bytes m.sites ++ each triangle_bytes m.triangles ++ each hull_bytes m.hull ++ 5 ∷ []

-- ---- the meshes that have a form

abbrev pub OutlineFits : Outline → Type 0
OutlineFits (box x y width height) = (x < 2 ^ 64) × (y < 2 ^ 64) × (width < 2 ^ 64) × (height < 2 ^ 64)
OutlineFits unclipped = Unit {0}
OutlineFits (edges left top right bottom) = (left < 2 ^ 64) × (top < 2 ^ 64) × (right < 2 ^ 64) × (bottom < 2 ^ 64)

abbrev pub SiteFits : Site → Type 0
SiteFits s = (s.x < 2 ^ 64) × (s.y < 2 ^ 64)

abbrev pub TriangleFits : Triangle → Type 0
TriangleFits t = (t.a < 2 ^ 32) × (t.b < 2 ^ 32) × (t.c < 2 ^ 32) × (t.pair_a < 2 ^ 32) × (t.pair_b < 2 ^ 32) × (t.pair_c < 2 ^ 32)

abbrev pub HullFits : ℕ → Type 0
HullFits h = h < 2 ^ 32

pub record MeshFits (m : FormMesh) : Type 0 where
  pub clip : OutlineFits m.clip
  pub sites : All SiteFits m.sites
  pub triangles : All TriangleFits m.triangles
  pub hull : All HullFits m.hull
  pub few_sites : length m.sites ≤ most_sites
  pub few_triangles : length m.triangles ≤ most_triangles
  pub few_hull : length m.hull ≤ most_hull

-- the first records that a form may have; none without a box but in forms of old
abbrev pub MayBegin : Bool → Outline → Type 0
MayBegin old (box x y width height) = Unit {0}
MayBegin old unclipped = old ≡ true
MayBegin old (edges left top right bottom) = Unit {0}

-- a sound form
pub record IsForm (old : Bool) (s : List ℕ) : Type 0 where
  pub mesh : FormMesh
  pub fits : MeshFits mesh
  pub admits : MayBegin old mesh.clip
  pub bytes : s ≡ form_of mesh

-- ---- its numbers, as the lists hold them

abbrev pub float : ℕ → Float
float p = of_bits binary64 p

abbrev pub outline_floats : Outline → List Float
outline_floats (box x y width height) = float x ∷ float y ∷ float width ∷ float height ∷ []
outline_floats unclipped = []
outline_floats (edges left top right bottom) = float left ∷ float top ∷ float right ∷ float bottom ∷ []

abbrev pub site_floats : Site → List Float
site_floats s = float s.x ∷ float s.y ∷ []

abbrev pub triangle_sites : Triangle → List ℕ
triangle_sites t = t.a ∷ t.b ∷ t.c ∷ []

abbrev pub triangle_pairs : Triangle → List ℕ
triangle_pairs t = t.pair_a ∷ t.pair_b ∷ t.pair_c ∷ []

-- the kind of a first record
abbrev pub kind_of : Outline → ℕ
kind_of (box x y width height) = 1
kind_of unclipped = 6
kind_of (edges left top right bottom) = 7
