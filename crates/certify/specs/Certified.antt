-- Theorem: where `certify` prints `certified`, the cutting of the form's mesh in the form's box answers 0, and the verdict on its pieces is kind 0. What that means is in
-- certifying/specs/truth/CertificateTrue (`certified`, `covered`, `owner`).
use Rattle.std.specs.Prelude.{◌≡◌, refl, Bool, true, false, List, ℕ, ◌+◌, eqb, get_or, take}
use Rattle.std.proofs.Common.{sym, ap, ◌∙◌, subst, arith, eqb-true, eq-eqb}
use Rattle.base.specs.common.Pick.{pick}
use Rattle.plane.specs.declared.given.Given.{Given}
use Rattle.mesh.specs.Accepted.{Mesh, site_count}
use Rattle.auditing.specs.Promise.{unless_refused}
use Rattle.cutting_calls.specs.cut_admission.CutSlices.{CutSlices}
use Rattle.cutting_calls.specs.call.Promise.{CutAnswer}
use Rattle.certifying.specs.call.Verdict.{certify_on, certify_kind}
use Rattle.form.specs.Form.{FormMesh, form_of}
use Rattle.form.specs.mesh.Read.{BoxOf}
use Rattle.printing.specs.OfForm.{mesh_of, sound, broken}
use Rattle.printing.specs.parts.Text.{ascii}
use Rattle.printing.specs.parts.Labelled.{labelled, refusal}
use Rattle.certify.specs.text.CertifyLine.{pair_text, nearer_text, kind_text, certify_text}
use Rattle.certify.specs.Printed.{lent_zeros, CertifyTold, CertifyPrints}

-- the pieces of a mesh in a box, by cutting, with kind 0
pub record CertifiedPieces (m : Mesh) (g : Given) : Type 0 where
  pub slices : CutSlices
  pub count : ℕ
  pub cut : CutAnswer m g lent_zeros slices 0 count
  pub zero_kind : certify_kind (certify_on g.bounds 32 m.sites slices.vertices (take (site_count m.sites + 1) slices.offsets) slices.indexes) ≡ 0

-- ---- no other line has its text
abbrev yes : List ℕ
yes = ascii "certified\n"

first : {l : List ℕ} → yes ≡ l → 99 ≡ get_or l 0 0
first e = ap (λ (l : List ℕ). get_or l 0 0) e

no_refusal_lem : (n : ℕ) → yes ≡ refusal n → ⊥
unfolding refusal labelled
no_refusal_lem n e = absurd (omega (arith, first e))

kind_says : (kind s v o : ℕ) → yes ≡ kind_text kind s v o → kind ≡ 0
unfolding kind_text pair_text nearer_text
kind_says kind s v o h = go (eqb kind 0) refl (eqb kind 1) (eqb kind 2) (eqb kind 3) (eqb kind 4) h
  where
    go : (a : Bool) → eqb kind 0 ≡ a → (b c d e : Bool) → yes ≡ pick a (λ _. ascii "certified\n") (λ _. pick b (λ _. pair_text (ascii "outside") s v)
        (λ _. pick c (λ _. pair_text (ascii "side") s v) (λ _. pick d (λ _. ascii "border\n") (λ _. pick e (λ _. nearer_text s v o) (λ _. pair_text (ascii "twin") s o)))))
        → kind ≡ 0
    go true q b c d e h = eqb-true kind 0 q
    go false q true c d e h = absurd (omega (arith, first h))
    go false q false true d e h = absurd (omega (arith, first h))
    go false q false false true e h = absurd (omega (arith, first h))
    go false q false false false true h = absurd (omega (arith, first h))
    go false q false false false false h = absurd (omega (arith, first h))

text_says : (cut number kind s v o : ℕ) → yes ≡ certify_text cut number kind s v o → (cut ≡ 0) × (number ≡ 0) × (kind ≡ 0)
unfolding certify_text
text_says cut number kind s v o h = go (eqb cut 0) refl (eqb number 0) refl h
  where
    go : (a : Bool) → eqb cut 0 ≡ a → (b : Bool) → eqb number 0 ≡ b → yes ≡ pick a (λ _. pick b (λ _. kind_text kind s v o) (λ _. refusal number)) (λ _. refusal cut)
        → (cut ≡ 0) × (number ≡ 0) × (kind ≡ 0)
    go true p true q h = (eqb-true cut 0 p, eqb-true number 0 q, kind_says kind s v o h)
    go true p false q h = absurd (no_refusal_lem number h)
    go false p b q h = absurd (no_refusal_lem cut h)

-- ---- the pieces behind it
told_certified : (m : Mesh) (g : Given) → CertifyTold m g yes → CertifiedPieces m g
unfolding unless_refused
told_certified m g x =
    let t = x.told in
    let z = text_says _ _ _ _ _ _ t.line in
    record {
      slices = x.slices;
      count = x.count;
      cut = subst (λ (n : ℕ). CutAnswer m g lent_zeros x.slices n x.count) z.0 x.cut;
      zero_kind = sym (rw (eq-eqb _ _ z.1) at t.answer.kind_is) ∙ z.2;
    }

-- the form that was read, the box that it gives, and the pieces of its mesh in it
abbrev pub FormCertified : List ℕ → Type 0
FormCertified s = (m : FormMesh) × (g : Given) × (s ≡ form_of m) × BoxOf m.clip g × CertifiedPieces (mesh_of m) g

by_text : {s text : List ℕ} → CertifyPrints s text → yes ≡ text → FormCertified s
by_text (sound m g f e b x) q = (m, g, e, b, told_certified (mesh_of m) g (subst (CertifyTold (mesh_of m) g) (sym q) x))
by_text (broken p n) q = absurd (no_refusal_lem _ q)

pub prints_certified : {s : List ℕ} → CertifyPrints s (ascii "certified\n") → FormCertified s
prints_certified p = by_text p refl
