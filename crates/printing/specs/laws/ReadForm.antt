-- What was read of a form's bytes is its mesh, so what is answered for the lists is what is answered for the bytes.
use Rattle.std.specs.Prelude.{◌≡◌, Err, false, List, ℕ, Float, length, take}
use Rattle.std.proofs.Common.{arith, length-take}
use Rattle.plane.specs.declared.given.Given.{Given}
use Rattle.mesh.specs.Accepted.{Mesh, mesh}
use Rattle.form.specs.mesh.Read.{ReadParts, MeshSized, MeshRead, RefusedAt}
use Rattle.form.specs.declared.step.Broken.{Broken}
use Rattle.printing.specs.OfForm.{OfForm, sound, broken}

-- the parts of the lists that are the mesh's
pub parts_sized : {n k h : ℕ} (ss : List Float) (ts hs : List ℕ) → MeshSized n k h → MeshSized (length (take n ss)) (length (take k ts)) (length (take h hs))
parts_sized ss ts hs s =
    record {
      few_sites = simp length-take (omega (arith, s.few_sites));
      few_triangles = simp length-take (omega (arith, s.few_triangles));
      few_on_hull = simp length-take (omega (arith, s.few_on_hull));
    }

module _ {A : Type 0} {Told : Mesh → Given → A → Type 0} {refused : ℕ → A} {s : List ℕ} where
  module _ {a : ReadParts} {ss : List Float} {ts es hs : List ℕ} (r : MeshRead false s a ss ts es hs) where
    pub told : {x : A} → a.number ≡ 0 → Told (mesh (take a.coordinates ss) (take a.links ts) (take a.links es) (take a.hull hs)) a.given x → OfForm Told refused s x
    told z t =
        let p = r.sound z in
        let h = p.holds in
        sound p.mesh a.given p.fits p.form (h.given p.admits) (rw (h.sites, h.triangles, h.halfedges, h.hull) at t)

  pub not_told : {x : A} (b : Broken) → RefusedAt false s (Err b) → x ≡ refused b.number → OfForm Told refused s x
  not_told b p e = rw e (broken p.0 p.1)
