-- Theorem: what `read` promises, said of forms: the mesh of a sound form with its numbers from the beginning of each list, and the refusal's number with its byte for every other byte string.
use Rattle.std.specs.Prelude.{◌≡◌, refl, Ok, Err, Bool, List, ◌⊎◌, ℕ, Float, length}
use Rattle.std.proofs.Common.{sym, ap, ◌∙◌, subst, inl, inr}
use Rattle.std.proofs.lemmas.List.Edits.{sets}
use Rattle.octets.specs.Bytes.{Bytes, each}
use Rattle.form.specs.Form.{FormMesh, MeshFits, MayBegin, IsForm, form_of, kind_of, outline_floats, site_floats, triangle_sites, triangle_pairs}
use Rattle.form.specs.step.Reader.{start, steps, verdict, Reading, reading, takes, Form, sound_of, broken_of}
use Rattle.form.specs.step.Holds.{Reads}
use Rattle.form.specs.laws.Run.{takes_reader}
use Rattle.form.specs.laws.Mesh.{WholeRead, complete}
use Rattle.form.specs.laws.Exact.{sound_broken, ended_of, answer_ended, accepts, only_forms}
use Rattle.form.specs.Place.{Place, NumberAt}
use Rattle.form.specs.laws.Place.{refused_at_lem}
use Rattle.form.specs.laws.NumberAt.{number_at}

module _ (old : Bool) (s : List ℕ) (bs ss : List Float) (ts es hs : List ℕ) where
  pub record ReadSound (a : Form) (bs' ss' : List Float) (ts' es' hs' : List ℕ) : Type 0 where
    pub mesh : FormMesh
    pub fits : MeshFits mesh
    pub admits : MayBegin old mesh.clip
    pub form : s ≡ form_of mesh
    pub answer : a ≡ sound_of (length mesh.sites) (length mesh.triangles) (length mesh.hull) (kind_of mesh.clip)
    pub bounds : bs' ≡ sets bs 0 (outline_floats mesh.clip)
    pub sites : ss' ≡ sets ss 0 (each site_floats mesh.sites)
    pub triangles : ts' ≡ sets ts 0 (each triangle_sites mesh.triangles)
    pub halfedges : es' ≡ sets es 0 (each triangle_pairs mesh.triangles)
    pub hull : hs' ≡ sets hs 0 mesh.hull

  pub record Refused (a : Form) : Type 0 where
    pub number : ℕ
    pub place : ℕ
    pub answer : a ≡ broken_of number place
    pub first : Place old s place
    pub number_at : NumberAt old s place number
    pub no_form : IsForm old s → ⊥

  module _ (a : Form) (bs' ss' : List Float) (ts' es' hs' : List ℕ) (r : Reads s (reading (start old) bs ss ts es hs) a bs' ss' ts' es' hs') where
    answers : verdict (steps (start old) s) ≡ a
    answers = sym (r.answer ∙ ap verdict (takes_reader s (reading (start old) bs ss ts es hs)))

    of_form : IsForm old s → ReadSound a bs' ss' ts' es' hs'
    of_form f =
        let m = f.mesh in
        let d = reading (start old) bs ss ts es hs in
        let w : WholeRead m bs ss ts es hs (takes d s) = subst (λ (z : List ℕ). WholeRead m bs ss ts es hs (takes d z)) (sym f.bytes) (complete bs ss ts es hs old m f.fits f.admits) in
        record {
          mesh = m;
          fits = f.fits;
          admits = f.admits;
          form = f.bytes;
          answer = r.answer ∙ w.answer;
          bounds = r.bounds ∙ w.bounds;
          sites = r.sites ∙ w.sites;
          triangles = r.triangles ∙ w.triangles;
          halfedges = r.halfedges ∙ w.halfedges;
          hull = r.hull ∙ w.hull;
        }

    pub exact : Bytes s → ReadSound a bs' ss' ts' es' hs' ⊎ Refused a
    exact h = go a answers refl
      where
        go : (b : Form) → verdict (steps (start old) s) ≡ b → a ≡ b → ReadSound a bs' ss' ts' es' hs' ⊎ Refused a
        go (Ok a) e f = inl (of_form (only_forms old s h (ended_of (steps (start old) s) a.sites a.triangles a.hull a.clip e)))
        go (Err b) e f =
            inr (record {
              number = b.number;
              place = b.at;
              answer = f;
              first = refused_at_lem old s h b.number b.at e;
              number_at = number_at old s h b.number b.at e;
              no_form = λ g. sound_broken (sym e ∙ answer_ended (steps (start old) s) (accepts old s g));
            })

-- any two results that the promise allows are equal
pub reads_same :
    {s : List ℕ} {d : Reading} {a a' : Form} {bs ss bs' ss' : List Float} {ts es hs ts' es' hs' : List ℕ}
    → Reads s d a bs ss ts es hs
    → Reads s d a' bs' ss' ts' es' hs'
    → (a ≡ a') × (bs ≡ bs') × (ss ≡ ss') × (ts ≡ ts') × (es ≡ es') × (hs ≡ hs')
reads_same r q = (
  r.answer ∙ sym q.answer,
  r.bounds ∙ sym q.bounds,
  r.sites ∙ sym q.sites,
  r.triangles ∙ sym q.triangles,
  r.halfedges ∙ sym q.halfedges,
  r.hull ∙ sym q.hull,
)
