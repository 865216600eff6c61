-- Theorem: what is written is the form of the mesh whose first record, sites, triangles, pairs and hull it was made of, and how long it is; read again it
-- gives these lists.
use Rattle.std.specs.Prelude.{◌≡◌, refl, Bool, ℕ, ◌+◌, ◌*◌, ◌/◌, ◌%◌, Float, length}
use Rattle.std.proofs.Common.{ap, ◌∙◌, arith, length-append}
use mathlib.Core.List.{List, [], ◌∷◌, ◌++◌, append_assoc}
use Rattle.std.proofs.lemmas.List.Edits.{sets}
use Rattle.octets.specs.Bytes.{each}
use Rattle.form.specs.Form.{Outline, Site, FormMesh, MeshFits, MayBegin, form_of, outline_bytes, site_bytes, triangle_bytes, hull_bytes, outline_floats, site_floats, triangle_sites, triangle_pairs, kind_of}
use Rattle.form.specs.step.Reader.{start, reading, takes, Form, sound_of}
use Rattle.form.specs.step.Holds.{Reads}
use Rattle.form.specs.laws.Lists.{each_length}
use Rattle.form.specs.laws.Mesh.{WholeRead, complete}
use Rattle.mend.specs.writer.Written.{triangles_of, triangle_records, lists, written_form}
use Rattle.mend.specs.writer.laws.Records.{numbers_from_lem, triangles_count}

-- the mesh of a first record, sites and the three lists
abbrev pub mesh_with : Outline → List Site → List ℕ → List ℕ → List ℕ → FormMesh
mesh_with clip ss tri he hull = record { clip = clip; sites = ss; triangles = triangles_of tri he; hull = hull }

-- what a reader of bytes answers and leaves in lists that were bs to hs, where it finds this first record, these sites and these lists
pub record ReadAs (clip : Outline) (ps : List Site) (tri he round : List ℕ) (bs ss : List Float) (ts es hs : List ℕ) (a : Form)
    (bs' ss' : List Float) (ts' es' hs' : List ℕ) : Type 0 where
  pub answer : a ≡ sound_of (length ps) (length tri / 3) (length round) (kind_of clip)
  pub bounds : bs' ≡ sets bs 0 (outline_floats clip)
  pub sites : ss' ≡ sets ss 0 (each site_floats ps)
  pub triangles : ts' ≡ sets ts 0 tri
  pub halfedges : es' ≡ sets es 0 he
  pub hull : hs' ≡ sets hs 0 round

pub length_written : (first sites tri he hull : List ℕ)
    → length (written_form first sites tri he hull) ≡ length first + length sites + 25 * (length tri / 3) + 5 * length hull + 1
unfolding written_form lists triangle_records
length_written first sites tri he hull =
    let ts = triangles_of tri he in
    let t = each triangle_bytes ts in
    let h = each hull_bytes hull in
    omega (
      arith,
      length-append (first ++ sites) (t ++ h ++ 5 ∷ []),
      length-append first sites,
      length-append (t ++ h) (5 ∷ []),
      length-append t h,
      each_length triangle_bytes 25 (λ _. refl) ts,
      triangles_count tri he (length tri / 3) 0,
      each_length hull_bytes 5 (λ _. refl) hull,
    )

module _ (clip : Outline) (ps : List Site) (tri he hull : List ℕ) where
  abbrev mesh : FormMesh
  mesh = mesh_with clip ps tri he hull

  abbrev bytes : List ℕ
  bytes = written_form (outline_bytes clip) (each site_bytes ps) tri he hull

  pub writes_form : bytes ≡ form_of mesh
  unfolding written_form lists triangle_records form_of
  writes_form = simp append_assoc

  module _ (threes : length tri % 3 ≡ 0) (same : length he ≡ length tri) where
    pub sites_back : each triangle_sites (triangles_of tri he) ≡ tri
    sites_back = numbers_from_lem tri he triangle_sites tri (λ _. refl) (length tri / 3) 0 (omega arith)

    pub pairs_back : each triangle_pairs (triangles_of tri he) ≡ he
    pairs_back = numbers_from_lem tri he triangle_pairs he (λ _. refl) (length tri / 3) 0 (omega arith)

    pub read_back : {old : Bool} {bs ss : List Float} {ts es hs : List ℕ} {a : Form} {bs' ss' : List Float} {ts' es' hs' : List ℕ} → MeshFits mesh → MayBegin old clip
        → Reads bytes (reading (start old) bs ss ts es hs) a bs' ss' ts' es' hs' → ReadAs clip ps tri he hull bs ss ts es hs a bs' ss' ts' es' hs'
    read_back {old} {bs} {ss} {ts} {es} {hs} fits i r =
        let w : WholeRead mesh bs ss ts es hs (takes (reading (start old) bs ss ts es hs) bytes) = rw writes_form (complete bs ss ts es hs old mesh fits i) in
        record {
          answer = r.answer ∙ w.answer ∙ ap (λ (k : ℕ). sound_of (length ps) k (length hull) (kind_of clip)) (triangles_count tri he (length tri / 3) 0);
          bounds = r.bounds ∙ w.bounds;
          sites = r.sites ∙ w.sites;
          triangles = r.triangles ∙ w.triangles ∙ ap (sets ts 0) sites_back;
          halfedges = r.halfedges ∙ w.halfedges ∙ ap (sets es 0) pairs_back;
          hull = r.hull ∙ w.hull;
        }
