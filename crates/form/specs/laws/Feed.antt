-- The loop over bytes: what is left of them, taken from where the loop stands, comes to what all of them come to from its start.
use Rattle.std.specs.Prelude.{◌≡◌, refl, Bool, true, false, List, [], ◌∷◌, ℕ, suc, ◌+◌, ◌≤◌, ◌<◌, length, get_or, drop, eqb, Float}
use Rattle.std.proofs.Common.{sym, ap, ◌∙◌, arith, add-one, drop-cons}
use Rattle.std.proofs.Math.Seq.{drop-length}
use Rattle.base.specs.common.Pick.{pick}
use Rattle.base.specs.numbers.Numbers.{refused_form}
use Rattle.form.specs.step.Reader.{Reading, reading, broken, start, step, take, takes, verdict, Form, sound_of, broken_of}
use Rattle.form.specs.step.Holds.{ListRoom, Few, Reads}
use Rattle.form.specs.step.Standing.{Ok}
use Rattle.form.specs.step.laws.Standing.{few_counts, ok_step}
use Rattle.form.specs.declared.step.Reader.{Reader}

abbrev pub RoomIn : Reading → Type 0
RoomIn d = ListRoom d.bounds d.sites d.triangles d.halfedges d.hull

-- the lists are as long as they were
pub record SameLists (d e : Reading) : Type 0 where
  pub bounds : length e.bounds ≡ length d.bounds
  pub sites : length e.sites ≡ length d.sites
  pub triangles : length e.triangles ≡ length d.triangles
  pub halfedges : length e.halfedges ≡ length d.halfedges
  pub hull : length e.hull ≡ length d.hull

pub room_same : {d e : Reading} → RoomIn d → SameLists d e → RoomIn e
room_same r s =
    record {
      bounds = rw s.bounds r.bounds;
      sites = rw s.sites r.sites;
      triangles = rw s.triangles r.triangles;
      halfedges = rw s.halfedges r.halfedges;
      hull = rw s.hull r.hull;
    }

pub same_same : {d e f : Reading} → SameLists d e → SameLists e f → SameLists d f
same_same s t =
    record {
      bounds = t.bounds ∙ s.bounds;
      sites = t.sites ∙ s.sites;
      triangles = t.triangles ∙ s.triangles;
      halfedges = t.halfedges ∙ s.halfedges;
      hull = t.hull ∙ s.hull;
    }

pub record Feeding (s : List ℕ) (d e : Reading) (i : ℕ) : Type 0 where
  pub within : i ≤ length s
  pub ok : Ok e.reader
  pub same : SameLists d e
  pub rest : takes e (drop i s) ≡ takes d s

pub feeding_start : (s : List ℕ) (d : Reading) → Ok d.reader → Feeding s d d 0
feeding_start s d o =
    record {
      within = omega arith;
      ok = o;
      same = record { bounds = refl; sites = refl; triangles = refl; halfedges = refl; hull = refl };
      rest = refl;
    }

reader_take : (d : Reading) (b : ℕ) → (take d b).reader ≡ step d.reader b
unfolding take
reader_take d b = refl

takes_more : (d : Reading) (b : ℕ) (s : List ℕ) → takes d (b ∷ s) ≡ takes (take d b) s
unfolding takes
takes_more d b s = refl

pub takes_none : (d : Reading) → takes d [] ≡ d
unfolding takes
takes_none d = refl

module _ {s : List ℕ} {d e : Reading} {i : ℕ} (h : Feeding s d e i) where
  pub feeding_step : (f : Reading) → i < length s → f ≡ take e (get_or s i 0) → SameLists e f → Feeding s d f (i + 1)
  feeding_step f l t m =
      let q : f.reader ≡ step e.reader (get_or s i 0) = ap (λ (x : Reading). x.reader) t ∙ reader_take e (get_or s i 0) in
      record {
        within = omega arith;
        ok = rw q (ok_step e.reader (get_or s i 0) h.ok);
        same = same_same h.same m;
        rest =
            ap (λ (k : ℕ). takes f (drop k s)) (add-one i)
            ∙ ap (λ (x : Reading). takes x (drop (suc i) s)) t
            ∙ sym (takes_more e (get_or s i 0) (drop (suc i) s))
            ∙ sym (ap (takes e) (drop-cons s i 0 l))
            ∙ h.rest;
      }

  pub feeding_end : length s ≤ i → e ≡ takes d s
  feeding_end l =
      let k : i ≡ length s = omega (arith, h.within) in
      sym (takes_none e) ∙ sym (ap (takes e) (ap (λ (n : ℕ). drop n s) k ∙ drop-length s)) ∙ h.rest

-- ---- a whole form

few_answer : (r : Reader) → Ok r → Few (verdict r)
unfolding verdict
few_answer r o = go (broken r) (eqb r.stage 5)
  where
    go : (t u : Bool) → Few (pick t (λ _. broken_of r.refusal r.at) (λ _. pick u (λ _. sound_of r.sites r.triangles r.hull r.clip) (λ _. broken_of refused_form r.at)))
    go true u = tt
    go false true = few_counts o
    go false false = tt

pub reads_all :
    (old : Bool) (s : List ℕ) (r n : Reader) (bs ss : List Float) (ts es hs : List ℕ) (bs' ss' : List Float) (ts' es' hs' : List ℕ) (a : Form)
    → r ≡ start old
    → reading n bs' ss' ts' es' hs' ≡ takes (reading r bs ss ts es hs) s
    → Ok n
    → a ≡ verdict n
    → Reads s (reading (start old) bs ss ts es hs) a bs' ss' ts' es' hs'
reads_all old s r n bs ss ts es hs bs' ss' ts' es' hs' a b e o f =
    let g : reading n bs' ss' ts' es' hs' ≡ takes (reading (start old) bs ss ts es hs) s = e ∙ ap (λ (x : Reader). takes (reading x bs ss ts es hs) s) b in
    record {
      answer = f ∙ ap (λ (d : Reading). verdict d.reader) g;
      bounds = ap (λ (d : Reading). d.bounds) g;
      sites = ap (λ (d : Reading). d.sites) g;
      triangles = ap (λ (d : Reading). d.triangles) g;
      halfedges = ap (λ (d : Reading). d.halfedges) g;
      hull = ap (λ (d : Reading). d.hull) g;
      few = rw f (few_answer n o);
    }
