-- Theorem: what is told of a whole form: for a sound form its mesh, with its numbers from the beginning of each list; for every other byte string the refusal's number, at the
-- first byte after which no sound form can follow, or at the length of a form that has not ended.
use Rattle.std.specs.Prelude.{◌≡◌, refl, Bool, true, false, List, ◌⊎◌, ℕ, length}
use Rattle.std.proofs.Common.{sym, ap, ◌∙◌, subst, inl, inr, ⊎_elim}
use Rattle.std.proofs.lemmas.List.Edits.{sets}
use Rattle.octets.specs.Bytes.{Bytes, each}
use Rattle.form.specs.step.Reader.{Reading, broken, start, finished, takes, verdict, sound_of, broken_of}
use Rattle.form.specs.step.Holds.{Reads, form_sound}
use Rattle.form.specs.step.Standing.{Ok}
use Rattle.form.specs.step.laws.Standing.{ok_start}
use Rattle.form.specs.step.laws.Steps.{verdict_broken, verdict_sound}
use Rattle.form.specs.declared.step.Reader.{Reader}
use Rattle.form.specs.laws.Place.{broken_at}
use Rattle.form.specs.declared.step.Sound.{Sound}
use Rattle.form.specs.Form.{FormMesh, MeshFits, MayBegin, IsForm, form_of, kind_of, outline_floats, site_floats, triangle_sites, triangle_pairs}
use Rattle.form.specs.Place.{Place, NumberAt}
use Rattle.form.specs.Promise.{ReadSound, Refused, exact}
use Rattle.form.specs.laws.Exact.{sound_broken}
use Rattle.form.specs.laws.Feed.{reads_all}
use Rattle.reader.specs.answers.Answers.{nowhere, report_of}
use Rattle.reader.specs.answers.laws.Answers.{report_none, report_refused}
use Rattle.reader.specs.Calls.{FormLists, reading_of, roomy, read_by, read_call, AtRead}
use Rattle.reader.specs.laws.Calls.{read_wide, ok_takes}

module _ (l : FormLists) (s : List ℕ) where
  pub record IsRead (w : AtRead) : Type 0 where
    pub mesh : FormMesh
    pub fits : MeshFits mesh
    pub admits : MayBegin false mesh.clip
    pub form : s ≡ form_of mesh
    pub report : w.report ≡ record { number = 0; at = nowhere; clip = kind_of mesh.clip; sites = length mesh.sites; triangles = length mesh.triangles; hull = length mesh.hull }
    pub bounds : w.form_lists.bounds ≡ sets l.bounds 0 (outline_floats mesh.clip)
    pub sites : w.form_lists.sites ≡ sets l.sites 0 (each site_floats mesh.sites)
    pub triangles : w.form_lists.triangles ≡ sets l.triangles 0 (each triangle_sites mesh.triangles)
    pub halfedges : w.form_lists.halfedges ≡ sets l.halfedges 0 (each triangle_pairs mesh.triangles)
    pub hull : w.form_lists.hull ≡ sets l.hull 0 mesh.hull

  pub record IsRefused (w : AtRead) : Type 0 where
    pub number : ℕ
    pub place : ℕ
    pub first : Place false s place
    pub number_at : NumberAt false s place number
    pub report : w.report ≡ record { number = number; at = place; clip = 0; sites = 0; triangles = 0; hull = 0 }
    pub no_form : IsForm false s → ⊥

report_sound : (r : Reader) (a b c k : ℕ) → verdict r ≡ sound_of a b c k → report_of (finished r) ≡ record { number = 0; at = nowhere; clip = k; sites = a; triangles = b; hull = c }
report_sound r a b c k e = go (broken (finished r)) refl
  where
    go : (t : Bool) → broken (finished r) ≡ t → report_of (finished r) ≡ record { number = 0; at = nowhere; clip = k; sites = a; triangles = b; hull = c }
    go true f = sound_broken (sym (verdict_broken r f) ∙ e)
    go false f =
        let q : sound_of (finished r).sites (finished r).triangles (finished r).hull (finished r).clip ≡ sound_of a b c k = sym (verdict_sound r f) ∙ e in
        let s = ap form_sound q in
        let w : (finished r).sites ≡ a = ap (λ (z : Sound). z.sites) s in
        let x : (finished r).triangles ≡ b = ap (λ (z : Sound). z.triangles) s in
        let y : (finished r).hull ≡ c = ap (λ (z : Sound). z.hull) s in
        let z : (finished r).clip ≡ k = ap (λ (z : Sound). z.clip) s in
        report_none (finished r) f ∙ rw (w, x, y, z)

report_broken : (r : Reader) (m k : ℕ) → verdict r ≡ broken_of m k → report_of (finished r) ≡ record { number = m; at = k; clip = 0; sites = 0; triangles = 0; hull = 0 }
report_broken r m k e = go (broken (finished r)) refl
  where
    go : (t : Bool) → broken (finished r) ≡ t → report_of (finished r) ≡ record { number = m; at = k; clip = 0; sites = 0; triangles = 0; hull = 0 }
    go false f = sound_broken (sym e ∙ verdict_sound r f)
    go true f =
        let q : broken_of (finished r).refusal (finished r).at ≡ broken_of m k = sym (verdict_broken r f) ∙ e in
        let v : (finished r).refusal ≡ m = (broken_at _ _ _ _ q).0 in
        let w : (finished r).at ≡ k = (broken_at _ _ _ _ q).1 in
        report_refused (finished r) f ∙ rw (v, w)

-- every whole form with room is read or refused so
module _ (l : FormLists) (s : List ℕ) where
  abbrev d : Reading
  d = takes (reading_of (start false) l) s

  abbrev n : Reader
  n = d.reader

  ok : Ok n
  ok = ok_takes s (reading_of (start false) l) (ok_start false)

  reads : Reads s (reading_of (start false) l) (verdict n) d.bounds d.sites d.triangles d.halfedges d.hull
  reads =
      reads_all false s (start false) n l.bounds l.sites l.triangles l.halfedges l.hull d.bounds d.sites d.triangles d.halfedges d.hull (verdict n)
      refl refl ok refl

  sound : ReadSound false s l.bounds l.sites l.triangles l.halfedges l.hull (verdict n) d.bounds d.sites d.triangles d.halfedges d.hull
      → IsRead l s (read_by d)
  sound x =
      record {
        mesh = x.mesh;
        fits = x.fits;
        admits = x.admits;
        form = x.form;
        report = report_sound n _ _ _ _ x.answer;
        bounds = x.bounds;
        sites = x.sites;
        triangles = x.triangles;
        halfedges = x.halfedges;
        hull = x.hull;
      }

  refused : Refused false s l.bounds l.sites l.triangles l.halfedges l.hull (verdict n) → IsRefused l s (read_by d)
  refused x = record {
    number = x.number;
    place = x.place;
    first = x.first;
    number_at = x.number_at;
    report = report_broken n x.number x.place x.answer;
    no_form = x.no_form;
  }

  pub read_exact : roomy l ≡ true → Bytes s → IsRead l s (read_call l s) ⊎ IsRefused l s (read_call l s)
  read_exact room h =
      let is = sym (read_wide l s room) in
      ⊎_elim (λ x. inl (subst (IsRead l s) is (sound x))) (λ x. inr (subst (IsRefused l s) is (refused x)))
      (exact false s l.bounds l.sites l.triangles l.halfedges l.hull (verdict n) d.bounds d.sites d.triangles d.halfedges d.hull reads h)
