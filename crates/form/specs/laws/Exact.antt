-- The reader accepts exactly the sound forms, and refuses at the first byte after which none can follow.
use Rattle.std.specs.Prelude.{◌≡◌, refl, Bool, true, false, List, [], ◌∷◌, ◌++◌, ℕ, eqb, length}
use Rattle.std.proofs.Common.{sym, ap, ◌∙◌, subst, append_assoc, ⊎_elim, arith, eqb-true}
use Rattle.base.specs.common.Pick.{pick}
use Rattle.octets.specs.Bytes.{Bytes, each}
use Rattle.base.specs.numbers.Numbers.{refused_form}
use Rattle.form.specs.Form.{Outline, box, unclipped, edges, MayBegin, IsForm, OutlineFits, outline_bytes, site_bytes, triangle_bytes, hull_bytes, form_of}
use Rattle.form.specs.step.Reader.{size_of, opens, follows, broken, start, number_for, refused, begun, outside, step, steps, verdict, Reading, reading, takes, sound_of, broken_of}
use Rattle.form.specs.step.laws.Steps.{OpeningKind, box as a-box, none as no_box, edges as four-edges, opens_cases, follows_cases, step_outside}
use Rattle.form.specs.laws.Run.{Opens, ready_up, takes_reader, opening}
use Rattle.form.specs.laws.Mesh.{complete}
use Rattle.form.specs.laws.Cut.{Ended, CutOff, steps_append, body_there, cut_four_lem}
use Rattle.form.specs.laws.Tail.{FewRecords, Tail, tail, refused_ends}
use Rattle.form.specs.declared.step.Reader.{Reader}

-- ---- accepted

pub sound_broken : {A : Type 0} {a b c k n at : ℕ} → broken_of n at ≡ sound_of a b c k → A
sound_broken e = let z : ◌≡◌ {A = ℕ} 0 1 = cc in absurd (omega arith)

pub ended_of : (r : Reader) (a b c k : ℕ) → verdict r ≡ sound_of a b c k → Ended r
unfolding verdict
ended_of r a b c k e = go (broken r) (eqb r.stage 5) refl refl e
  where
    go :
        (t v : Bool) → broken r ≡ t → eqb r.stage 5 ≡ v
        → pick t (λ _. broken_of r.refusal r.at) (λ _. pick v (λ _. sound_of r.sites r.triangles r.hull r.clip) (λ _. broken_of refused_form r.at)) ≡ sound_of a b c k
        → Ended r
    go true v p q f = sound_broken f
    go false false p q f = sound_broken f
    go false true p q f = record { unbroken = p; stage = eqb-true _ _ q }

pub answer_ended : (r : Reader) → Ended r → verdict r ≡ sound_of r.sites r.triangles r.hull r.clip
unfolding verdict
answer_ended r e = rw (e.unbroken, e.stage)

-- every sound form
pub accepts : (old : Bool) (s : List ℕ) → IsForm old s → Ended (steps (start old) s)
accepts old s f =
    let m = f.mesh in
    let w = complete [] [] [] [] [] old m f.fits f.admits in
    let d = reading (start old) [] [] [] [] [] in
    let e : (takes d (form_of m)).reader ≡ steps (start old) s = takes_reader (form_of m) d ∙ ap (steps (start old)) (sym f.bytes) in
    ended_of (steps (start old) s) _ _ _ _ (sym (ap verdict e) ∙ w.answer)

-- ---- and nothing else

few_opened : {r : Reader} {c : Outline} → Opens r c → FewRecords r
few_opened o = record { sites = omega (arith, o.sites); triangles = omega (arith, o.triangles); hull = omega (arith, o.hull) }

regroup : (a b c d e : List ℕ) → a ++ (b ++ c ++ d ++ e) ≡ a ++ b ++ c ++ d ++ e
regroup a b c d e = simp append_assoc

opened_form : (old : Bool) (c : Outline) (r : Reader) (t : List ℕ) → MayBegin old c → OutlineFits c → Opens r c → Tail r t → IsForm old (outline_bytes c ++ t)
unfolding form_of
opened_form old c r t a f o u =
    record {
      mesh = record { clip = c; sites = u.sites; triangles = u.triangles; hull = u.hull };
      fits =
          record {
            clip = f;
            sites = u.site_fits;
            triangles = u.triangle_fits;
            hull = u.hull_fits;
            few_sites = omega (arith, u.few_sites);
            few_triangles = omega (arith, u.few_triangles);
            few_hull = omega (arith, u.few_hull);
          };
      admits = a;
      bytes = ap (λ (z : List ℕ). outline_bytes c ++ z) u.bytes ∙ regroup (outline_bytes c) (each site_bytes u.sites) (each triangle_bytes u.triangles) (each hull_bytes u.hull) (5 ∷ []);
    }

module _ (old : Bool) (c : Outline) (a : MayBegin old c) (f : OutlineFits c) where
  opened_to : steps (start old) (outline_bytes c) ≡ (opening old c a f [] [] [] [] []).to
  opened_to = sym (takes_reader (outline_bytes c) (reading (start old) [] [] [] [] [])) ∙ ap (λ (d : Reading). d.reader) (opening old c a f [] [] [] [] []).lists

  from_clip : (t : List ℕ) → Bytes t → Ended (steps (start old) (outline_bytes c ++ t)) → IsForm old (outline_bytes c ++ t)
  from_clip t h e =
      let o = opening old c a f [] [] [] [] [] in
      let e' : Ended (steps o.to t) = subst Ended (steps_append (outline_bytes c) t (start old) ∙ ap (λ (n : Reader). steps n t) opened_to) e in
      opened_form old c o.to t a f o.opens (tail (length t) o.to t (omega arith) h (ready_up 4 (omega arith) o.opens.ready) (few_opened o.opens) e')

-- a first record that a form may have
abbrev Clips : Bool → Outline → Type 0
Clips old c = OutlineFits c × MayBegin old c

-- one that has a body
from_body : (old : Bool) (k : ℕ) (t : List ℕ) (x : CutOff outline_bytes (Clips old) k t) → Ended (steps (start old) (k ∷ t)) → IsForm old (k ∷ t)
from_body old k t x e =
    subst (IsForm old) (sym x.joined)
    (from_clip old x.value x.fits.1 x.fits.0 x.rest x.bytes (subst (λ (z : List ℕ). Ended (steps (start old) z)) x.joined e))

from_first : (old : Bool) (k : ℕ) → OpeningKind old k → (t : List ℕ) → Bytes t → Ended (steps (start old) (k ∷ t)) → IsForm old (k ∷ t)
unfolding steps step outside follows opens begun size_of
from_first old k a-box t h e =
    from_body old 1 t (cut_four_lem (Clips old) 1 box (λ x y z v. refl) (λ x y z v f. (f, tt)) t h (body_there t (begun (start old) 1) refl (λ z. omega arith) e)) e
from_first old k (no_box a) t h e = from_clip old unclipped a tt t h e
from_first old k four-edges t h e =
    from_body old 7 t (cut_four_lem (Clips old) 7 edges (λ x y z v. refl) (λ x y z v f. (f, tt)) t h (body_there t (begun (start old) 7) refl (λ z. omega arith) e)) e

pub only_forms : (old : Bool) (s : List ℕ) → Bytes s → Ended (steps (start old) s) → IsForm old s
unfolding steps outside
only_forms old [] h e = absurd (omega (arith, e.stage))
only_forms old (b ∷ t) h e = go (follows (start old) b) refl
  where
    go : (u : Bool) → follows (start old) b ≡ u → IsForm old (b ∷ t)
    go true f = ⊎_elim (λ v. from_first old b (opens_cases old b v.1) t h.1 e) (λ v. absurd (v.0 refl)) (follows_cases (start old) b f)
    go false f =
        let i : step (start old) b ≡ refused (start old) (number_for (start old) b) = step_outside (start old) b refl refl ∙ rw f in
        absurd (refused_ends (start old) b t (subst (λ (m : Reader). Ended (steps m t)) i e))
