-- The form's reader, byte for byte: a state, the step that one byte takes it by, and what the lent lists hold after that. Definitions only.
use Rattle.std.specs.Prelude.{Result, Ok, Err, Bool, true, false, List, [], ◌∷◌, ℕ, ◌+◌, ◌-◌, ◌*◌, ◌/◌, ◌%◌, ◌^◌, eqb, ltb, Float, set}
use Rattle.std.specs.Float.{binary64}
use Rattle.std.specs.Float.Ieee.{of_bits}
use Rattle.base.specs.common.Pick.{pick}
use Rattle.base.specs.numbers.Numbers.{refused_form, refused_unclipped}
use Rattle.form.specs.Limits.{most_sites, most_triangles, most_hull}
use Rattle.form.specs.step.Register.{shift}
use Rattle.form.specs.declared.step.Reader.{Reader}
use Rattle.form.specs.declared.step.Sound.{Sound}
use Rattle.form.specs.declared.step.Broken.{Broken}

-- ---- kinds

-- the length of a kind's body
unfoldable pub size_of : ℕ → ℕ
size_of k =
    pick (eqb k 1) (λ _. 32)
    (λ _. pick (eqb k 2) (λ _. 16)
    (λ _. pick (eqb k 3) (λ _. 24)
    (λ _. pick (eqb k 4) (λ _. 4)
    (λ _. pick (eqb k 7) (λ _. 32) (λ _. 0)))))

-- a form begins with a box or with a box by its edges; forms of old also with the word that there is none
unfoldable pub opens : Bool → ℕ → Bool
opens old k = pick (eqb k 1) (λ _. true) (λ _. pick (eqb k 6) (λ _. old) (λ _. eqb k 7))

-- after that: sites, triangles, hull sites within their limits, and one end
unfoldable pub room_left : Reader → ℕ → Bool
room_left r k =
    pick (eqb k 2) (λ _. ltb r.sites most_sites)
    (λ _. pick (eqb k 3) (λ _. ltb r.triangles most_triangles)
    (λ _. pick (eqb k 4) (λ _. ltb r.hull most_hull)
    (λ _. pick (eqb k 5) (λ _. ltb r.stage 5) (λ _. false))))

-- the order is that of the kinds
unfoldable pub follows : Reader → ℕ → Bool
follows r k =
    pick (eqb r.stage 0) (λ _. opens r.old k)
    (λ _. pick (ltb k r.stage) (λ _. false) (λ _. room_left r k))

-- ---- the state

abbrev pub start : Bool → Reader
start old =
    record {
      old = old;
      stage = 0;
      left = 0;
      word = 0;
      at = 0;
      refusal = 0;
      clip = 0;
      sites = 0;
      triangles = 0;
      hull = 0;
    }

-- whether a refusal stands
abbrev pub broken : Reader → Bool
broken r = pick (eqb r.refusal 0) (λ _. false) (λ _. true)

-- the number for a kind that may not come: a mesh without a box is refused by name, until the end
unfoldable pub number_for : Reader → ℕ → ℕ
number_for r k = pick (eqb k 6) (λ _. pick (ltb r.stage 5) (λ _. refused_unclipped) (λ _. refused_form)) (λ _. refused_form)

unfoldable pub refused : Reader → ℕ → Reader
refused r number =
    record {
      old = r.old;
      stage = r.stage;
      left = r.left;
      word = r.word;
      at = r.at;
      refusal = number;
      clip = r.clip;
      sites = r.sites;
      triangles = r.triangles;
      hull = r.hull;
    }

unfoldable pub begun : Reader → ℕ → Reader
begun r k =
    record {
      old = r.old;
      stage = pick (opens r.old k) (λ _. 1) (λ _. k);
      left = size_of k;
      word = r.word;
      at = r.at + 1;
      refusal = 0;
      clip = pick (opens r.old k) (λ _. k) (λ _. r.clip);
      sites = r.sites;
      triangles = r.triangles;
      hull = r.hull;
    }

-- one more where a body of this kind has had its last byte
unfoldable pub tally : Reader → ℕ → ℕ → ℕ
tally r k n = pick (eqb r.stage k) (λ _. pick (eqb r.left 1) (λ _. n + 1) (λ _. n)) (λ _. n)

unfoldable pub inside : Reader → ℕ → Reader
inside r b =
    record {
      old = r.old;
      stage = r.stage;
      left = r.left - 1;
      word = shift r.word b;
      at = r.at + 1;
      refusal = 0;
      clip = r.clip;
      sites = tally r 2 r.sites;
      triangles = tally r 3 r.triangles;
      hull = tally r 4 r.hull;
    }

unfoldable pub outside : Reader → ℕ → Reader
outside r b = pick (follows r b) (λ _. begun r b) (λ _. refused r (number_for r b))

-- one byte: after a refusal none counts; a body's byte; a kind
unfoldable pub step : Reader → ℕ → Reader
step r b = pick (broken r) (λ _. r) (λ _. pick (eqb r.left 0) (λ _. outside r b) (λ _. inside r b))

unfoldable pub steps : Reader → List ℕ → Reader
steps r [] = r
steps r (b ∷ s) = steps (step r b) s

-- where no more comes: a form that has not ended is refused at its length
unfoldable pub finished : Reader → Reader
finished r = pick (broken r) (λ _. r) (λ _. pick (eqb r.stage 5) (λ _. r) (λ _. refused r refused_form))

-- what is told of a form: a sound one's counts and the kind that opened it, or the number of its refusal and the byte
abbrev pub Form : Type 0
Form = Result Sound Broken

abbrev pub sound_of : ℕ → ℕ → ℕ → ℕ → Form
sound_of sites triangles hull clip = Ok (record { sites = sites; triangles = triangles; hull = hull; clip = clip })

abbrev pub broken_of : ℕ → ℕ → Form
broken_of number at = Err (record { number = number; at = at })

unfoldable pub verdict : Reader → Form
verdict r =
    pick (broken r) (λ _. broken_of r.refusal r.at)
    (λ _. pick (eqb r.stage 5) (λ _. sound_of r.sites r.triangles r.hull r.clip) (λ _. broken_of refused_form r.at))

-- ---- the lent lists

-- whether the next byte is of the body of a record of this kind
unfoldable pub within : Reader → ℕ → Bool
within r k = pick (broken r) (λ _. false) (λ _. pick (eqb r.left 0) (λ _. false) (λ _. eqb r.stage k))

-- a float is whole with every eighth byte from the body's end, a link with every fourth: it is then at the register's top
unfoldable pub put_float : List Float → ℕ → ℕ → ℕ → List Float
put_float l last left w = pick (eqb (left % 8) 0) (λ _. set l (last - left / 8) (of_bits binary64 w)) (λ _. l)

unfoldable pub put_link : List ℕ → ℕ → ℕ → ℕ → List ℕ
put_link l last left w = pick (eqb (left % 4) 0) (λ _. set l (last - left / 4) (w / 2 ^ 32)) (λ _. l)

-- what byte b leaves in each list, from the state r
unfoldable pub bounds_by : Reader → ℕ → List Float → List Float
bounds_by r b l = pick (within r 1) (λ _. put_float l 3 (r.left - 1) (shift r.word b)) (λ _. l)

unfoldable pub sites_by : Reader → ℕ → List Float → List Float
sites_by r b l = pick (within r 2) (λ _. put_float l (2 * r.sites + 1) (r.left - 1) (shift r.word b)) (λ _. l)

-- a triangle's body: the links of its three sites, then those of its three pairs
unfoldable pub triangles_by : Reader → ℕ → List ℕ → List ℕ
triangles_by r b l =
    pick (within r 3)
    (λ _. pick (ltb (r.left - 1) 12) (λ _. l) (λ _. put_link l (3 * r.triangles + 2) (r.left - 1 - 12) (shift r.word b)))
    (λ _. l)

unfoldable pub halfedges_by : Reader → ℕ → List ℕ → List ℕ
halfedges_by r b l =
    pick (within r 3)
    (λ _. pick (ltb (r.left - 1) 12) (λ _. put_link l (3 * r.triangles + 2) (r.left - 1) (shift r.word b)) (λ _. l))
    (λ _. l)

unfoldable pub hull_by : Reader → ℕ → List ℕ → List ℕ
hull_by r b l = pick (within r 4) (λ _. put_link l r.hull (r.left - 1) (shift r.word b)) (λ _. l)

-- the state with the lists
pub record Reading : Type 0 where
  pub reader : Reader
  pub bounds : List Float
  pub sites : List Float
  pub triangles : List ℕ
  pub halfedges : List ℕ
  pub hull : List ℕ

abbrev pub reading : Reader → List Float → List Float → List ℕ → List ℕ → List ℕ → Reading
reading r bs ss ts es hs =
    record {
      reader = r;
      bounds = bs;
      sites = ss;
      triangles = ts;
      halfedges = es;
      hull = hs;
    }

-- the lists alone
abbrev pub filled_by : Reader → ℕ → List Float → List Float → List ℕ → List ℕ → List ℕ → Reading
filled_by r b bs ss ts es hs = reading r (bounds_by r b bs) (sites_by r b ss) (triangles_by r b ts) (halfedges_by r b es) (hull_by r b hs)

unfoldable pub take : Reading → ℕ → Reading
take d b =
    let r = d.reader in
    reading (step r b) (bounds_by r b d.bounds) (sites_by r b d.sites) (triangles_by r b d.triangles) (halfedges_by r b d.halfedges) (hull_by r b d.hull)

unfoldable pub takes : Reading → List ℕ → Reading
takes d [] = d
takes d (b ∷ s) = takes (take d b) s
