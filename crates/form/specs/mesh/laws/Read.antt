-- What the reader leaves in its lists is the mesh of the form, or a refusal with its number.
use Rattle.std.specs.Prelude.{Ok, Err, ◌≡◌, refl, Bool, false, List, ◌≢◌, ℕ, ◌≤◌, Float, length, replicate}
use Rattle.std.proofs.Common.{sym, ◌∙◌, subst, ⊎_elim, arith}
use Rattle.std.proofs.lemmas.List.Edits.{sets}
use Rattle.base.specs.common.Binary64 as B
use Rattle.base.specs.common.laws.Stores.{sets_all}
use Rattle.plane.specs.given.Finite.{Fits}
use Rattle.octets.specs.Bytes.{Bytes}
use Rattle.form.specs.Form.{Outline, box, unclipped, edges, FormMesh, MeshFits, MayBegin, kind_of, outline_floats}
use Rattle.form.specs.Place.{NumberAt}
use Rattle.form.specs.Promise.{ReadSound, Refused, exact}
use Rattle.form.specs.boxes.FormBox.{box_by}
use Rattle.form.specs.boxes.Fits.{box_fits}
use Rattle.form.specs.step.Reader.{start, reading, Form, sound_of}
use Rattle.form.specs.step.Holds.{ListRoom, Few, Reads}
use Rattle.form.specs.laws.Lists.{Put, sites_are, tri_is, he_is, hull_is}
use Rattle.form.specs.mesh.Read.{BoxOf, mesh_answer, mesh_parts, MeshSized, HoldsMesh, MeshRead, RefusedAt}

-- every number of a refusal is some number
number_some : {old : Bool} {s : List ℕ} {k n : ℕ} → NumberAt old s k n → n ≢ 0
number_some a z = let e = a.other (λ x. omega (arith, a.six x)) in omega (arith, e)

-- the box of a first record, by its kind and by its numbers
module _ (bs bs' : List Float) (room : 4 ≤ length bs) where
  pub box_by_lem : (clip : Outline) → MayBegin false clip → bs' ≡ sets bs 0 (outline_floats clip) → BoxOf clip (box_by (kind_of clip) bs')
  box_by_lem (box x y w h) a e = rw (e, sets_all (outline_floats (box x y w h)) bs room)
  box_by_lem unclipped a e = let z : ◌≡◌ {A = ℕ} 0 1 = cc in absurd (omega arith)
  box_by_lem (edges x y u v) a e = rw (e, sets_all (outline_floats (edges x y u v)) bs room)

-- the counts of a form are within their limits
sized : (a : Form) (bs : List Float) → Few a → MeshSized (mesh_parts a bs).coordinates (mesh_parts a bs).links (mesh_parts a bs).hull
sized (Ok s) bs f = record { few_sites = omega (arith, f.0); few_triangles = omega (arith, f.1); few_on_hull = f.2 }
sized (Err b) bs f = record { few_sites = omega arith; few_triangles = omega arith; few_on_hull = omega arith }

fits : (a : Form) (bs : List Float) → Fits (mesh_parts a bs).given
fits (Ok s) bs = box_fits s.clip bs
fits (Err b) bs = box_fits 0 (replicate 4 B.zero)

-- the lists after a mesh was read into them
pub holds_mesh :
    {bs ss : List Float} {ts es hs : List ℕ} {a : Form} {bs' ss' : List Float} {ts' es' hs' : List ℕ} (m : FormMesh) → MeshFits m
    → a ≡ sound_of (length m.sites) (length m.triangles) (length m.hull) (kind_of m.clip) → ListRoom bs ss ts es hs → Put m bs ss ts es hs bs' ss' ts' es' hs'
    → HoldsMesh (mesh_parts a bs') m ss' ts' es' hs'
holds_mesh {bs = bs} {bs' = bs'} m f q room p =
    rw q (record {
      kind = refl;
      given = λ i. box_by_lem bs bs' room.bounds m.clip i p.bounds;
      count = refl;
      sites = sites_are f room p;
      triangles = tri_is f room p;
      halfedges = he_is f room p;
      hull = hull_is f room p;
    })

module _ {old : Bool} {s : List ℕ} {bs ss : List Float} {ts es hs : List ℕ} {a : Form} {bs' ss' : List Float} {ts' es' hs' : List ℕ}
    (x : Reads s (reading (start old) bs ss ts es hs) a bs' ss' ts' es' hs') (h : Bytes s) (room : ListRoom bs ss ts es hs) where
  of_sound : ReadSound old s bs ss ts es hs a bs' ss' ts' es' hs' → MeshRead old s (mesh_parts a bs') ss' ts' es' hs'
  of_sound p =
      let zero : (mesh_parts a bs').number ≡ 0 = rw p.answer in
      record {
        sound = λ z. record {
          mesh = p.mesh;
          fits = p.fits;
          admits = p.admits;
          form = p.form;
          holds = holds_mesh p.mesh p.fits p.answer room
              (record { bounds = p.bounds; sites = p.sites; triangles = p.triangles; halfedges = p.halfedges; hull = p.hull });
        };
        broken = λ z. absurd (z zero);
        sized = sized a bs' x.few;
        box = fits a bs';
      }

  of_broken : Refused old s bs ss ts es hs a → MeshRead old s (mesh_parts a bs') ss' ts' es' hs'
  of_broken p =
      let number : (mesh_parts a bs').number ≡ p.number = rw p.answer in
      record {
        sound = λ z. absurd (number_some p.number_at (sym number ∙ z));
        broken = λ z. record { place = p.place; first = p.first; number_at = subst (NumberAt old s p.place) (sym number) p.number_at };
        sized = sized a bs' x.few;
        box = fits a bs';
      }

  pub mesh_read : MeshRead old s (mesh_parts a bs') ss' ts' es' hs'
  mesh_read = ⊎_elim of_sound of_broken (exact old s bs ss ts es hs a bs' ss' ts' es' hs' x h)

  pub refused_at : RefusedAt old s (mesh_answer a bs')
  refused_at = ⊎_elim (λ p. rw p.answer tt) (λ p. rw p.answer (p.first, p.number_at)) (exact old s bs ss ts es hs a bs' ss' ts' es' hs' x h)
