-- What a form's bytes are as lent lists: the mesh whose form they are, at the beginning of each list, with its box; or the number of a refusal. Definitions only.
use Rattle.std.specs.Prelude.{◌≡◌, Result, Ok, Err, Bool, false, List, ◌≢◌, ℕ, ◌*◌, ◌≤◌, Float, length, replicate, take}
use Rattle.base.specs.common.Binary64 as B
use Rattle.plane.specs.points.Plane.{at}
use Rattle.plane.specs.given.Given.{by_size, by_edges}
use Rattle.plane.specs.given.Finite.{Fits}
use Rattle.plane.specs.declared.given.Given.{Given}
use Rattle.octets.specs.Bytes.{each}
use Rattle.form.specs.Limits.{most_hull, most_coordinates, most_links}
use Rattle.form.specs.Form.{Outline, box, unclipped, edges, FormMesh, MeshFits, MayBegin, form_of, float, site_floats, triangle_sites, triangle_pairs, kind_of}
use Rattle.form.specs.Place.{Place, NumberAt}
use Rattle.form.specs.boxes.FormBox.{box_by}
use Rattle.form.specs.step.Reader.{Form}
use Rattle.form.specs.declared.step.Broken.{Broken}
use Rattle.form.specs.declared.mesh.MeshParts.{MeshParts}

-- g is the box that a first record gives; the word that there is none gives none
abbrev pub BoxOf : Outline → Given → Type 0
BoxOf (box x y width height) g = g ≡ by_size (at (float x) (float y)) (float width) (float height)
BoxOf unclipped g = ⊥
BoxOf (edges left top right bottom) g = g ≡ by_edges (float left) (float top) (float right) (float bottom)

-- lists that every form has room in
pub record MeshRoom (ss : List Float) (ts es hs : List ℕ) : Type 0 where
  pub sites : most_coordinates ≤ length ss
  pub triangles : most_links ≤ length ts
  pub halfedges : most_links ≤ length es
  pub hull : most_hull ≤ length hs

-- what is known of a form once it is read: 0 and what `MeshParts` holds, or the number of its refusal
pub record ReadParts : Type 0 where
  pub number : ℕ
  pub kind : ℕ
  pub given : Given
  pub coordinates : ℕ
  pub links : ℕ
  pub hull : ℕ

-- of a refused form no list holds anything, and the box is that of four zeros
abbrev pub parts_of : Result MeshParts Broken → ReadParts
parts_of (Ok m) = record { number = 0; kind = m.kind; given = m.given; coordinates = m.coordinates; links = m.links; hull = m.hull }
parts_of (Err b) = record { number = b.number; kind = 0; given = box_by 0 (replicate 4 B.zero); coordinates = 0; links = 0; hull = 0 }

-- by the reader's answer and the four numbers that stood in the first record
abbrev pub mesh_answer : Form → List Float → Result MeshParts Broken
mesh_answer (Ok s) bs = Ok (record { kind = s.clip; given = box_by s.clip bs; coordinates = 2 * s.sites; links = 3 * s.triangles; hull = s.hull })
mesh_answer (Err b) bs = Err b

abbrev pub mesh_parts : Form → List Float → ReadParts
mesh_parts a bs = parts_of (mesh_answer a bs)

-- lists of at most so many entries
pub record MeshSized (coordinates links hull : ℕ) : Type 0 where
  pub few_sites : coordinates ≤ most_coordinates
  pub few_triangles : links ≤ most_links
  pub few_on_hull : hull ≤ most_hull

-- the lists and the box are those of a mesh
pub record HoldsMesh (a : ReadParts) (m : FormMesh) (ss : List Float) (ts es hs : List ℕ) : Type 0 where
  pub kind : a.kind ≡ kind_of m.clip
  pub given : MayBegin false m.clip → BoxOf m.clip a.given
  pub count : a.coordinates ≡ 2 * length m.sites
  pub sites : take a.coordinates ss ≡ each site_floats m.sites
  pub triangles : take a.links ts ≡ each triangle_sites m.triangles
  pub halfedges : take a.links es ≡ each triangle_pairs m.triangles
  pub hull : take a.hull hs ≡ m.hull

module _ (old : Bool) (s : List ℕ) (a : ReadParts) where
  -- a sound form; with `old`, one of old too
  pub record SoundMesh (ss : List Float) (ts es hs : List ℕ) : Type 0 where
    pub mesh : FormMesh
    pub fits : MeshFits mesh
    pub admits : MayBegin old mesh.clip
    pub form : s ≡ form_of mesh
    pub holds : HoldsMesh a mesh ss ts es hs

  -- no form: the byte of its refusal, and the number there
  pub record NoMesh : Type 0 where
    pub place : ℕ
    pub first : Place old s place
    pub number_at : NumberAt old s place a.number

  -- the promise of `read`, of its answer's parts
  pub record MeshRead (ss : List Float) (ts es hs : List ℕ) : Type 0 where
    pub sound : a.number ≡ 0 → SoundMesh ss ts es hs
    pub broken : a.number ≢ 0 → NoMesh
    pub sized : MeshSized a.coordinates a.links a.hull
    pub box : Fits a.given

-- a refusal names its byte and the number there
abbrev pub RefusedAt : Bool → List ℕ → Result MeshParts Broken → Type 0
RefusedAt old s (Ok m) = Unit {0}
RefusedAt old s (Err b) = Place old s b.at × NumberAt old s b.at b.number
