-- What was read of a form's bytes is its mesh, so what is printed for the lists is what is printed for the bytes, and the other way round.
use Rattle.std.specs.Prelude.{◌≡◌, Err, Bool, List, ℕ, ◌+◌, ◌*◌, ◌/◌, ◌≤◌, Float, length, take}
use Rattle.std.proofs.Common.{sym, subst, arith}
use Rattle.octets.specs.Bytes.{each}
use Rattle.printing.specs.parts.Labelled.{refusal}
use Rattle.form.specs.Form.{Outline, FormMesh, MayBegin, form_of, kind_of, site_floats}
use Rattle.form.specs.Place.{Place, NumberAt}
use Rattle.form.specs.mesh.Read.{ReadParts, MeshRead, RefusedAt}
use Rattle.form.specs.declared.step.Broken.{Broken}
use Rattle.mend.specs.boxes.Option.{IsOption, outline_of, gives}
use Rattle.mend.specs.Printed as printed
use Rattle.mend.specs.Printed.{PrintsMesh, MendPrints, MendNumber, sound, broken}
use Rattle.mend.specs.Steps as steps
use Rattle.mend.specs.Steps.{first_length, OfLists, put_bytes, kept_bytes}
use Rattle.mend.specs.laws.Heads.{headed, put_is, text_same}

-- ---- by lists and by mesh

module _ (option : List ℕ) (i : IsOption option) (m : FormMesh) (b : MayBegin (gives (outline_of option)) m.clip) where
  abbrev o : Outline
  o = outline_of option

  abbrev pub ByLists : Bool → List ℕ → Type 0
  ByLists form =
      OfLists form (put_bytes option (kind_of m.clip)) (kept_bytes (form_of m) (kind_of m.clip) (length m.sites)) (each site_floats m.sites)
      (printed.tri_of o m) (printed.he_of o m) m.hull

  abbrev NumberBy : ℕ → Outline → Type 0
  NumberBy r p = MendNumber p (each site_floats m.sites) (printed.tri_of o m) (printed.he_of o m) m.hull r

  to_mesh : (form : Bool) {text : List ℕ} → ByLists form text → PrintsMesh o m form text
  to_mesh form (steps.refused {r} p q) = printed.refused (subst (NumberBy r) (put_is option m.clip) p) q
  to_mesh form (steps.mended p) = subst (PrintsMesh o m form) (sym (text_same option i m b form)) (printed.mended (subst (NumberBy 0) (put_is option m.clip) p))

  pub from_mesh : (form : Bool) {text : List ℕ} → PrintsMesh o m form text → ByLists form text
  from_mesh form (printed.refused {r} p q) = steps.refused (subst (NumberBy r) (sym (put_is option m.clip)) p) q
  from_mesh form (printed.mended p) = subst (ByLists form) (text_same option i m b form) (steps.mended (subst (NumberBy 0) (sym (put_is option m.clip)) p))

-- ---- by what was read

module _ {old : Bool} {s : List ℕ} {a : ReadParts} {ss : List Float} {ts es hs : List ℕ} (r : MeshRead old s a ss ts es hs) where
  -- the sites of the mesh
  half : (z : a.number ≡ 0) → a.coordinates / 2 ≡ length (r.sound z).mesh.sites
  half z = omega (arith, (r.sound z).holds.count)

  pub read_headed : a.number ≡ 0 → first_length a.kind + 17 * (a.coordinates / 2) ≤ length s
  read_headed z = let p = r.sound z in rw (p.holds.kind, half z, p.form) (headed p.mesh)

  module _ (option : List ℕ) (i : IsOption option) (g : old ≡ gives (outline_of option)) (form : Bool) {text : List ℕ} where
    pub prints : (z : a.number ≡ 0)
        → OfLists form (put_bytes option a.kind) (kept_bytes s a.kind (a.coordinates / 2)) (take a.coordinates ss) (take a.links ts) (take a.links es) (take a.hull hs) text
        → MendPrints form (outline_of option) s text
    prints z q =
        let p = r.sound z in
        let h = p.holds in
        let b = subst (λ (x : Bool). MayBegin x p.mesh.clip) g p.admits in
        sound p.mesh p.fits b p.form (to_mesh option i p.mesh b form (rw (h.kind, half z, p.form, h.sites, h.triangles, h.halfedges, h.hull) at q))

-- ---- by its refusal

pub prints_refusal : {old form : Bool} {s text : List ℕ} (option : List ℕ) → old ≡ gives (outline_of option) → (b : Broken) → RefusedAt old s (Err b) → text ≡ refusal b.number
    → MendPrints form (outline_of option) s text
prints_refusal {s = s} option g b p e =
    rw e (broken (subst (λ (x : Bool). Place x s b.at) g p.0) (subst (λ (x : Bool). NumberAt x s b.at b.number) g p.1))
