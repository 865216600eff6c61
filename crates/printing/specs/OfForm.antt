-- What a program answers for the bytes of a form, whatever it answers for a mesh in a box and for the number of a refusal: a text, or what a text is made of. Definitions only.
use Rattle.std.specs.Prelude.{◌≡◌, false, List, ℕ}
use Rattle.octets.specs.Bytes.{each}
use Rattle.plane.specs.declared.given.Given.{Given}
use Rattle.mesh.specs.Accepted.{Mesh, mesh}
use Rattle.form.specs.Form.{FormMesh, MeshFits, form_of, site_floats, triangle_sites, triangle_pairs}
use Rattle.form.specs.Place.{Place, NumberAt}
use Rattle.form.specs.mesh.Read.{BoxOf}

-- the lists of a mesh that a form says
abbrev pub mesh_of : FormMesh → Mesh
mesh_of m = mesh (each site_floats m.sites) (each triangle_sites m.triangles) (each triangle_pairs m.triangles) m.hull

-- Told is what is answered for a mesh in a given box, `refused` the answer for the number of a refusal; no form is read that gives no box
module _ {A : Type 0} (Told : Mesh → Given → A → Type 0) (refused : ℕ → A) where
  pub data OfForm (s : List ℕ) : A → Type 0 where
    sound : {a : A} (m : FormMesh) (g : Given) → MeshFits m → s ≡ form_of m → BoxOf m.clip g → Told (mesh_of m) g a → OfForm s a
    broken : {k n : ℕ} → Place false s k → NumberAt false s k n → OfForm s (refused n)
