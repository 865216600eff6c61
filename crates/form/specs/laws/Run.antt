-- What reading one whole record does: it is one record more, and its numbers stand in their lists.
use Rattle.std.specs.Prelude.{◌≡◌, Bool, true, false, ℕ, ◌+◌, ◌-◌, ◌*◌, ◌/◌, ◌^◌, ◌≤◌, ◌<◌, Float, set}
use Rattle.std.proofs.Math.Path.{refl, ap, ap₂}
use Rattle.std.proofs.Common.{sym, ◌∙◌, arith, ne_eqb, le-ltb, lt-ltb}
use mathlib.Core.List.{List, [], ◌∷◌, ◌++◌}
use Rattle.std.specs.Float.{binary64}
use Rattle.std.specs.Float.Ieee.{of_bits}
use Rattle.std.proofs.lemmas.List.Edits.{sets}
use Rattle.octets.specs.Bytes.{le}
use Rattle.form.specs.Limits.{most_sites, most_triangles, most_hull}
use Rattle.form.specs.step.Register.{shifts}
use Rattle.form.specs.Form.{Outline, box, unclipped, edges, Site, Triangle, MayBegin, outline_bytes, site_bytes, triangle_bytes, hull_bytes, OutlineFits, SiteFits}
use Rattle.form.specs.Form.{TriangleFits, HullFits, outline_floats, site_floats, triangle_sites, triangle_pairs, kind_of}
use Rattle.form.specs.step.Reader.{size_of, opens, room_left, follows, broken, start, begun, tally, inside, outside, step, steps, within, put_float, put_link}
use Rattle.form.specs.step.Reader.{bounds_by, sites_by, triangles_by, halfedges_by, hull_by, Reading, reading, take, takes}
use Rattle.form.specs.laws.Fill.{take_outside}
use Rattle.octets.specs.laws.Bytes.{bytes_le}
use Rattle.form.specs.laws.Register.{shifts_small, last_eight, last_four}
use Rattle.form.specs.declared.step.Reader.{Reader}

pub takes_append : (s t : List ℕ) (d : Reading) → takes d (s ++ t) ≡ takes (takes d s) t
unfolding takes
takes_append [] t d = refl
takes_append (b ∷ s) t d = takes_append s t (take d b)

pub takes_reader : (s : List ℕ) (d : Reading) → (takes d s).reader ≡ steps d.reader s
unfolding takes take steps
takes_reader [] d = refl
takes_reader (b ∷ s) d = takes_reader s (take d b)

-- ---- bodies, by computation

-- the state in a record of this kind, with so much of it to come
abbrev amid : Bool → ℕ → ℕ → ℕ → ℕ → ℕ → ℕ → ℕ → ℕ → Reader
amid o stage left w at u n m h =
    record {
      old = o;
      stage = stage;
      left = left;
      word = w;
      at = at;
      refusal = 0;
      clip = u;
      sites = n;
      triangles = m;
      hull = h;
    }

module _ (o : Bool) (w at u n m h : ℕ) (bs ss : List Float) (ts es hs : List ℕ) where
  box_body : (x y width height : ℕ) →
      let body = le 8 x ++ le 8 y ++ le 8 width ++ le 8 height in
      let w₁ = shifts w (le 8 x) in
      let w₂ = shifts w₁ (le 8 y) in
      let w₃ = shifts w₂ (le 8 width) in
      let w₄ = shifts w₃ (le 8 height) in
      takes (reading (amid o 1 32 w at u n m h) bs ss ts es hs) body
      ≡ reading (amid o 1 0 w₄ (steps (amid o 1 32 w at u n m h) body).at u n m h)
      (sets bs 0 (of_bits binary64 w₁ ∷ of_bits binary64 w₂ ∷ of_bits binary64 w₃ ∷ of_bits binary64 w₄ ∷ []))
      ss ts es hs
  unfolding takes take steps step inside tally within put_float put_link bounds_by sites_by triangles_by halfedges_by hull_by
  box_body x y width height = refl

  site_body : (x y : ℕ) →
      let body = le 8 x ++ le 8 y in
      let w₁ = shifts w (le 8 x) in
      let w₂ = shifts w₁ (le 8 y) in
      takes (reading (amid o 2 16 w at u n m h) bs ss ts es hs) body
      ≡ reading (amid o 2 0 w₂ (steps (amid o 2 16 w at u n m h) body).at u (n + 1) m h) bs
      (set (set ss (2 * n + 1 - 1) (of_bits binary64 w₁)) (2 * n + 1 - 0) (of_bits binary64 w₂))
      ts es hs
  unfolding takes take steps step inside tally within put_float put_link bounds_by sites_by triangles_by halfedges_by hull_by
  site_body x y = refl

  triangle_body : (a b c pa pb pc : ℕ) →
      let body = le 4 a ++ le 4 b ++ le 4 c ++ le 4 pa ++ le 4 pb ++ le 4 pc in
      let w₁ = shifts w (le 4 a) in
      let w₂ = shifts w₁ (le 4 b) in
      let w₃ = shifts w₂ (le 4 c) in
      let w₄ = shifts w₃ (le 4 pa) in
      let w₅ = shifts w₄ (le 4 pb) in
      let w₆ = shifts w₅ (le 4 pc) in
      takes (reading (amid o 3 24 w at u n m h) bs ss ts es hs) body
      ≡ reading (amid o 3 0 w₆ (steps (amid o 3 24 w at u n m h) body).at u n (m + 1) h) bs ss
      (set (set (set ts (3 * m + 2 - 2) (w₁ / 2 ^ 32)) (3 * m + 2 - 1) (w₂ / 2 ^ 32)) (3 * m + 2 - 0) (w₃ / 2 ^ 32))
      (set (set (set es (3 * m + 2 - 2) (w₄ / 2 ^ 32)) (3 * m + 2 - 1) (w₅ / 2 ^ 32)) (3 * m + 2 - 0) (w₆ / 2 ^ 32))
      hs
  unfolding takes take steps step inside tally within put_float put_link bounds_by sites_by triangles_by halfedges_by hull_by
  triangle_body a b c pa pb pc = refl

  hull_body : (s : ℕ) →
      let w₁ = shifts w (le 4 s) in
      takes (reading (amid o 4 4 w at u n m h) bs ss ts es hs) (le 4 s)
      ≡ reading (amid o 4 0 w₁ (steps (amid o 4 4 w at u n m h) (le 4 s)).at u n m (h + 1)) bs ss ts es (set hs (h - 0) (w₁ / 2 ^ 32))
  unfolding takes take steps step inside tally within put_float put_link bounds_by sites_by triangles_by halfedges_by hull_by
  hull_body s = refl

-- ---- whole records

-- between two records, the last of which was at most of kind k
pub record AtRecord (r : Reader) (k : ℕ) : Type 0 where
  pub unbroken : broken r ≡ false
  pub left : r.left ≡ 0
  pub low : 1 ≤ r.stage
  pub high : r.stage ≤ k
  pub word : r.word < 2 ^ 64

pub ready_up : {r : Reader} {k : ℕ} (n : ℕ) → k ≤ n → AtRecord r k → AtRecord r n
ready_up n l q = record { unbroken = q.unbroken; left = q.left; low = q.low; high = omega (arith, q.high); word = q.word }

-- n is that after a sites, b triangles and c hull sites more
pub record Ran (r n : Reader) (k a b c : ℕ) : Type 0 where
  pub ready : AtRecord n k
  pub clip : n.clip ≡ r.clip
  pub sites : n.sites ≡ r.sites + a
  pub triangles : n.triangles ≡ r.triangles + b
  pub hull : n.hull ≡ r.hull + c

-- the bytes s take the state r with its lists there
pub record Goes (r : Reader) (k a b c : ℕ) (bs ss : List Float) (ts es hs : List ℕ) (bs' ss' : List Float) (ts' es' hs' : List ℕ) (s : List ℕ) : Type 0 where
  pub to : Reader
  pub ran : Ran r to k a b c
  pub lists : takes (reading r bs ss ts es hs) s ≡ reading to bs' ss' ts' es' hs'

set_two : {A : Type 0} (l : List A) {i i' j j' : ℕ} {a a' b b' : A} → i ≡ i' → a ≡ a' → j ≡ j' → b ≡ b' → set (set l i a) j b ≡ set (set l i' a') j' b'
set_two l p q r s = cc

set_three :
    {A : Type 0} (l : List A) {i i' j j' k k' : ℕ} {a a' b b' c c' : A}
    → i ≡ i' → a ≡ a' → j ≡ j' → b ≡ b' → k ≡ k' → c ≡ c'
    → set (set (set l i a) j b) k c ≡ set (set (set l i' a') j' b') k' c'
set_three l p q r s t u = cc

pub kind_follows : (r : Reader) (k : ℕ) → 1 ≤ r.stage → r.stage ≤ k → room_left r k ≡ true → follows r k ≡ true
unfolding follows
kind_follows r k l h e = rw (ne_eqb r.stage 0 (λ z. omega arith), le-ltb k r.stage h, e)

there :
    (r : Reader) (k w at n m h a b c : ℕ)
    → 1 ≤ k
    → w < 2 ^ 64
    → n ≡ r.sites + a
    → m ≡ r.triangles + b
    → h ≡ r.hull + c
    → Ran r (amid r.old k 0 w at r.clip n m h) k a b c
there r k w at n m h a b c l e p q s =
    record {
      ready = record { unbroken = refl; left = refl; low = l; high = omega arith; word = e };
      clip = refl;
      sites = p;
      triangles = q;
      hull = s;
    }

module _ (r : Reader) (bs ss : List Float) (ts es hs : List ℕ) where
  pub kind_run : (k : ℕ) (s : List ℕ) → broken r ≡ false → r.left ≡ 0 → follows r k ≡ true
      → takes (reading r bs ss ts es hs) (k ∷ s) ≡ takes (reading (begun r k) bs ss ts es hs) s
  unfolding takes outside
  kind_run k s e z f =
      ap (λ (d : Reading). takes d s) (sym (take_outside r k bs ss ts es hs e z) ∙ ap (λ (n : Reader). reading n bs ss ts es hs) (rw f))

  pub site_run : (s : Site) → SiteFits s → AtRecord r 2 → r.sites < most_sites → Goes r 2 1 0 0 bs ss ts es hs bs (sets ss (2 * r.sites) (site_floats s)) ts es hs (site_bytes s)
  unfolding begun opens size_of room_left
  site_run s fit q l =
      let w = r.word in
      let n = r.sites in
      let x = s.x in
      let y = s.y in
      let e₁ : shifts w (le 8 x) ≡ x = last_eight w q.word x fit.0 in
      let e₂ : shifts (shifts w (le 8 x)) (le 8 y) ≡ y = ap (λ (v : ℕ). shifts v (le 8 y)) e₁ ∙ last_eight x fit.0 y fit.1 in
      let at = (steps (amid r.old 2 16 w (r.at + 1) r.clip n r.triangles r.hull) (le 8 x ++ le 8 y)).at in
      let to : Reader = amid r.old 2 0 (shifts (shifts w (le 8 x)) (le 8 y)) at r.clip (n + 1) r.triangles r.hull in
      record {
        to = to;
        ran = there r 2 (shifts (shifts w (le 8 x)) (le 8 y)) at (n + 1) r.triangles r.hull 1 0 0 (omega arith) (rw e₂ fit.1) refl (omega arith) (omega arith);
        lists =
            kind_run 2 _ q.unbroken q.left (kind_follows r 2 q.low q.high (lt-ltb n most_sites l))
            ∙ site_body r.old w (r.at + 1) r.clip n r.triangles r.hull bs ss ts es hs x y
            ∙ ap (λ (z : List Float). reading to bs z ts es hs) (set_two ss (omega arith) (ap (of_bits binary64) e₁) (omega arith) (ap (of_bits binary64) e₂));
      }

  pub triangle_run :
      (t : Triangle) → TriangleFits t → AtRecord r 3 → r.triangles < most_triangles
      → Goes r 3 0 1 0 bs ss ts es hs bs ss (sets ts (3 * r.triangles) (triangle_sites t)) (sets es (3 * r.triangles) (triangle_pairs t)) hs (triangle_bytes t)
  unfolding begun opens size_of room_left
  triangle_run t fit q l =
      let m = r.triangles in
      let w₁ = shifts r.word (le 4 t.a) in
      let w₂ = shifts w₁ (le 4 t.b) in
      let w₃ = shifts w₂ (le 4 t.c) in
      let w₄ = shifts w₃ (le 4 t.pair_a) in
      let w₅ = shifts w₄ (le 4 t.pair_b) in
      let w₆ = shifts w₅ (le 4 t.pair_c) in
      let s₁ : w₁ < 2 ^ 64 = shifts_small (le 4 t.a) r.word q.word (bytes_le 4 t.a) in
      let s₂ : w₂ < 2 ^ 64 = shifts_small (le 4 t.b) w₁ s₁ (bytes_le 4 t.b) in
      let s₃ : w₃ < 2 ^ 64 = shifts_small (le 4 t.c) w₂ s₂ (bytes_le 4 t.c) in
      let s₄ : w₄ < 2 ^ 64 = shifts_small (le 4 t.pair_a) w₃ s₃ (bytes_le 4 t.pair_a) in
      let s₅ : w₅ < 2 ^ 64 = shifts_small (le 4 t.pair_b) w₄ s₄ (bytes_le 4 t.pair_b) in
      let s₆ : w₆ < 2 ^ 64 = shifts_small (le 4 t.pair_c) w₅ s₅ (bytes_le 4 t.pair_c) in
      let body = le 4 t.a ++ le 4 t.b ++ le 4 t.c ++ le 4 t.pair_a ++ le 4 t.pair_b ++ le 4 t.pair_c in
      let at = (steps (amid r.old 3 24 r.word (r.at + 1) r.clip r.sites m r.hull) body).at in
      let to : Reader = amid r.old 3 0 w₆ at r.clip r.sites (m + 1) r.hull in
      record {
        to = to;
        ran = there r 3 w₆ at r.sites (m + 1) r.hull 0 1 0 (omega arith) s₆ (omega arith) refl (omega arith);
        lists =
            kind_run 3 _ q.unbroken q.left (kind_follows r 3 q.low q.high (lt-ltb m most_triangles l))
            ∙ triangle_body r.old r.word (r.at + 1) r.clip r.sites m r.hull bs ss ts es hs t.a t.b t.c t.pair_a t.pair_b t.pair_c
            ∙ ap₂ (λ (z z' : List ℕ). reading to bs ss z z' hs)
            (set_three ts (omega arith) (last_four r.word q.word t.a fit.0) (omega arith) (last_four w₁ s₁ t.b fit.1) (omega arith) (last_four w₂ s₂ t.c fit.2))
            (set_three es (omega arith) (last_four w₃ s₃ t.pair_a fit.3) (omega arith) (last_four w₄ s₄ t.pair_b fit.4) (omega arith) (last_four w₅ s₅ t.pair_c fit.5));
      }

  pub hull_run : (v : ℕ) → HullFits v → AtRecord r 4 → r.hull < most_hull → Goes r 4 0 0 1 bs ss ts es hs bs ss ts es (sets hs r.hull (v ∷ [])) (hull_bytes v)
  unfolding begun opens size_of room_left
  hull_run v fit q l =
      let h = r.hull in
      let w₁ = shifts r.word (le 4 v) in
      let s₁ : w₁ < 2 ^ 64 = shifts_small (le 4 v) r.word q.word (bytes_le 4 v) in
      let at = (steps (amid r.old 4 4 r.word (r.at + 1) r.clip r.sites r.triangles h) (le 4 v)).at in
      let to : Reader = amid r.old 4 0 w₁ at r.clip r.sites r.triangles (h + 1) in
      record {
        to = to;
        ran = there r 4 w₁ at r.sites r.triangles (h + 1) 0 0 1 (omega arith) s₁ (omega arith) (omega arith) refl;
        lists =
            kind_run 4 _ q.unbroken q.left (kind_follows r 4 q.low q.high (lt-ltb h most_hull l))
            ∙ hull_body r.old r.word (r.at + 1) r.clip r.sites r.triangles h bs ss ts es hs v
            ∙ ap₂ (λ (i x : ℕ). reading to bs ss ts es (set hs i x)) (omega arith) (last_four r.word q.word v fit);
      }

-- the first record
pub record Opens (r : Reader) (c : Outline) : Type 0 where
  pub ready : AtRecord r 1
  pub clip : r.clip ≡ kind_of c
  pub sites : r.sites ≡ 0
  pub triangles : r.triangles ≡ 0
  pub hull : r.hull ≡ 0

pub record Opening (old : Bool) (c : Outline) (bs ss : List Float) (ts es hs : List ℕ) : Type 0 where
  pub to : Reader
  pub opens : Opens to c
  pub lists : takes (reading (start old) bs ss ts es hs) (outline_bytes c) ≡ reading to (sets bs 0 (outline_floats c)) ss ts es hs

opened : (old : Bool) (c : Outline) (k w at : ℕ) → kind_of c ≡ k → w < 2 ^ 64 → Opens (amid old 1 0 w at k 0 0 0) c
opened old c k w at i h =
    record {
      ready = record { unbroken = refl; left = refl; low = omega arith; high = omega arith; word = h };
      clip = sym i;
      sites = refl;
      triangles = refl;
      hull = refl;
    }

set_four :
    {A : Type 0} (l : List A) {a a' b b' c c' d d' : A}
    → a ≡ a' → b ≡ b' → c ≡ c' → d ≡ d'
    → sets l 0 (a ∷ b ∷ c ∷ d ∷ []) ≡ sets l 0 (a' ∷ b' ∷ c' ∷ d' ∷ [])
set_four l p q r s = cc

-- a first record of four floats: c makes it of them, and its kind is k
four_opening :
    (old : Bool) (c : Outline) (k x y z v : ℕ)
    → kind_of c ≡ k
    → outline_floats c ≡ of_bits binary64 x ∷ of_bits binary64 y ∷ of_bits binary64 z ∷ of_bits binary64 v ∷ []
    → (x < 2 ^ 64) × (y < 2 ^ 64) × (z < 2 ^ 64) × (v < 2 ^ 64)
    → (bs ss : List Float) (ts es hs : List ℕ)
    → takes (reading (start old) bs ss ts es hs) (outline_bytes c) ≡ takes (reading (amid old 1 32 0 1 k 0 0 0) bs ss ts es hs) (le 8 x ++ le 8 y ++ le 8 z ++ le 8 v)
    → Opening old c bs ss ts es hs
four_opening old c k x y z v i f fit bs ss ts es hs begins =
    let w₁ = shifts 0 (le 8 x) in
    let w₂ = shifts w₁ (le 8 y) in
    let w₃ = shifts w₂ (le 8 z) in
    let w₄ = shifts w₃ (le 8 v) in
    let e₁ : w₁ ≡ x = last_eight 0 (omega arith) x fit.0 in
    let e₂ : w₂ ≡ y = ap (λ (u : ℕ). shifts u (le 8 y)) e₁ ∙ last_eight x fit.0 y fit.1 in
    let e₃ : w₃ ≡ z = ap (λ (u : ℕ). shifts u (le 8 z)) e₂ ∙ last_eight y fit.1 z fit.2 in
    let e₄ : w₄ ≡ v = ap (λ (u : ℕ). shifts u (le 8 v)) e₃ ∙ last_eight z fit.2 v fit.3 in
    let at = (steps (amid old 1 32 0 1 k 0 0 0) (le 8 x ++ le 8 y ++ le 8 z ++ le 8 v)).at in
    let to : Reader = amid old 1 0 w₄ at k 0 0 0 in
    record {
      to = to;
      opens = opened old c k w₄ at i (rw e₄ fit.3);
      lists =
          begins
          ∙ box_body old 0 1 k 0 0 0 bs ss ts es hs x y z v
          ∙ ap (λ (l : List Float). reading to l ss ts es hs)
          (set_four bs (ap (of_bits binary64) e₁) (ap (of_bits binary64) e₂) (ap (of_bits binary64) e₃) (ap (of_bits binary64) e₄) ∙ sym (ap (sets bs 0) f));
    }

pub opening : (old : Bool) (c : Outline) → MayBegin old c → OutlineFits c → (bs ss : List Float) (ts es hs : List ℕ) → Opening old c bs ss ts es hs
unfolding begun size_of follows opens takes take step outside within bounds_by sites_by triangles_by halfedges_by hull_by
opening old unclipped e fit bs ss ts es hs = record { to = _; opens = opened old unclipped 6 0 1 refl (omega arith); lists = rw e }
opening old (box x y width height) e fit bs ss ts es hs = four_opening old (box x y width height) 1 x y width height refl refl fit bs ss ts es hs refl
opening old (edges left top right bottom) e fit bs ss ts es hs = four_opening old (edges left top right bottom) 7 left top right bottom refl refl fit bs ss ts es hs refl
