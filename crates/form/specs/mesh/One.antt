-- Theorem: two meshes with one form have the same lists and the same box.
use Rattle.std.specs.Prelude.{◌≡◌, Bool, false, List, ℕ, Float, replicate}
use Rattle.std.proofs.Common.{sym, ◌∙◌, arith}
use Rattle.std.proofs.lemmas.List.{length-replicate}
use Rattle.base.specs.common.Binary64 as B
use Rattle.octets.specs.Bytes.{each}
use Rattle.plane.specs.declared.given.Given.{Given}
use Rattle.form.specs.Limits.{most_hull, most_coordinates, most_links}
use Rattle.form.specs.Form.{Outline, box, unclipped, edges, FormMesh, MeshFits, MayBegin, form_of, site_floats, triangle_sites, triangle_pairs}
use Rattle.form.specs.step.Reader.{start, reading, takes, Reading, verdict}
use Rattle.form.specs.step.Holds.{ListRoom}
use Rattle.form.specs.laws.Mesh.{WholeRead, complete}
use Rattle.form.specs.mesh.Read.{BoxOf, mesh_parts, HoldsMesh}
use Rattle.form.specs.mesh.laws.Read.{holds_mesh}

-- ---- the reader's lists, as long as a form needs them
abbrev floats : ℕ → List Float
floats n = replicate n B.zero

abbrev links : ℕ → List ℕ
links n = replicate n 0

abbrev read : Bool → List ℕ → Reading
read old s = takes (reading (start old) (floats 4) (floats most_coordinates) (links most_links) (links most_links) (links most_hull)) s

room : ListRoom (floats 4) (floats most_coordinates) (links most_links) (links most_links) (links most_hull)
room = record {
  bounds = omega (arith, length-replicate 4 B.zero);
  sites = omega (arith, length-replicate most_coordinates B.zero);
  triangles = omega (arith, length-replicate {A = ℕ} most_links 0);
  halfedges = omega (arith, length-replicate {A = ℕ} most_links 0);
  hull = omega (arith, length-replicate {A = ℕ} most_hull 0);
}

-- what the reader makes of the form of a mesh
of_mesh_lem : (old : Bool) {s : List ℕ} (m : FormMesh) → MeshFits m → MayBegin old m.clip → s ≡ form_of m
    → HoldsMesh (mesh_parts (verdict (read old s).reader) (read old s).bounds) m (read old s).sites (read old s).triangles (read old s).halfedges (read old s).hull
of_mesh_lem old {s} m f b e =
    let w : WholeRead m (floats 4) (floats most_coordinates) (links most_links) (links most_links) (links most_hull) (read old s) =
    rw e (complete (floats 4) (floats most_coordinates) (links most_links) (links most_links) (links most_hull) old m f b) in
    holds_mesh m f w.answer room (record { bounds = w.bounds; sites = w.sites; triangles = w.triangles; halfedges = w.halfedges; hull = w.hull })

-- a first record gives one box
box_one : (c : Outline) (g h : Given) → BoxOf c g → BoxOf c h → g ≡ h
box_one (box x y w h) g k p q = p ∙ sym q
box_one unclipped g k p q = absurd p
box_one (edges x y u v) g k p q = p ∙ sym q

pub box_begins : (c : Outline) (g : Given) → BoxOf c g → MayBegin false c
box_begins (box x y w h) g p = tt
box_begins unclipped g p = absurd p
box_begins (edges x y u v) g p = tt

-- any two meshes with one form
pub record SameMesh (m n : FormMesh) : Type 0 where
  pub sites : each site_floats m.sites ≡ each site_floats n.sites
  pub triangles : each triangle_sites m.triangles ≡ each triangle_sites n.triangles
  pub halfedges : each triangle_pairs m.triangles ≡ each triangle_pairs n.triangles
  pub hull : m.hull ≡ n.hull
  pub given : (g h : Given) → BoxOf m.clip g → BoxOf n.clip h → g ≡ h

pub same_mesh : (old : Bool) {s : List ℕ} (m n : FormMesh) → MeshFits m → MeshFits n → MayBegin old m.clip → MayBegin old n.clip → s ≡ form_of m → s ≡ form_of n → SameMesh m n
same_mesh old m n f g a b d e =
    let x = of_mesh_lem old m f a d in
    let y = of_mesh_lem old n g b e in
    record {
      sites = sym x.sites ∙ y.sites;
      triangles = sym x.triangles ∙ y.triangles;
      halfedges = sym x.halfedges ∙ y.halfedges;
      hull = sym x.hull ∙ y.hull;
      given = λ u v p q. box_one m.clip u _ p (x.given (box_begins m.clip u p)) ∙ sym (box_one n.clip v _ q (y.given (box_begins n.clip v q)));
    }
