-- Law: a ring that goes through the pen leaves entries that stand for its places in order, each that is the same as the one before left out (`inked_all`).
use Rattle.std.specs.Prelude.{◌≡◌, Bool, true, false, Some, None, ℕ, ◌+◌, ◌*◌, ◌<◌, Float, length, set}
use Rattle.std.proofs.Math.Path.{refl, sym, ap, subst}
use Rattle.std.proofs.Common.{◌∙◌, ⊎_elim, arith, get_or-append-add, eq-eqb}
use mathlib.Core.List.{List, [], ◌∷◌, ◌++◌, append_assoc, append-nil}
use Rattle.std.proofs.Math.ListN.{get_or, length-append, length-set, get_or-append}
use Rattle.std.proofs.Math.Seq.{get_or-set_same, get_or-set_other}
use Rattle.base.specs.common.Binary64.{zero}
use Rattle.base.specs.common.laws.Decide.{lt_or_ge}
use Rattle.base.specs.numbers.Numbers.{EMPTY}
use Rattle.plane.specs.points.Plane.{at}
use Rattle.plane.specs.declared.points.Point.{Point}
use Rattle.plane.specs.declared.boxes.BoundingBox.{BoundingBox}
use Rattle.cutting.specs.cuts.Rings.{At}
use Rattle.cutting.specs.cuts.Stream.{feed_all}
use Rattle.cutting.specs.declared.corner.Corner.{Corner}
use Rattle.cutting.specs.declared.corner.Carrier.{Carrier}
use Rattle.cutting.specs.cuts.Written.{skip, unrepeated}
use Rattle.cutting.specs.sides.Area.{places_of}
use Rattle.cutting.specs.pen.Pen.{same_place, number_for, count_with, repeats, Page, written_as, inked}
use Rattle.cutting.specs.pen.Room.{Roomy, Later, roomy_before, written_later, inked_later, inked_new}
use Rattle.cutting_writer.specs.stream.Stages.{Ring, ink_at}
use Rattle.cutting_writer.specs.stream.laws.Stages.{all_grows, ink_grows}
use Rattle.cutting_writer.specs.join.laws.Closing.{last_or}
use Rattle.cutting_writer.specs.join.laws.Shown.{Shown, CornersIn, Numbered, Based, shown_kept, written_shown}

abbrev pub origin : Point
origin = at zero zero

-- the entries from `begin` up to where the pen is stand for these places
pub record EntriesStand (begin : ℕ) (ps : List Point) (g : Page) : Type 0 where
  pub at : g.pen.at ≡ begin + length ps
  pub shown : (k : ℕ) → k < length ps → (get_or g.indexes (begin + k) 0 < g.pen.count) × Shown g.vertices (get_or g.indexes (begin + k) 0) (get_or ps k origin)

pub stands_none : (begin : ℕ) (g : Page) → g.pen.at ≡ begin → EntriesStand begin [] g
stands_none begin g q = record { at = omega arith; shown = λ k l. absurd (omega arith) }

-- every corner is a circumcenter's place with its number, or has none
abbrev pub AllNumbered : ℕ → List Float → Ring → Type 0
AllNumbered centers v [] = Unit {0}
AllNumbered centers v (c ∷ l) = Numbered centers v c.corner.place c.corner.number × AllNumbered centers v l

pub based_later : (centers : ℕ) (v : List Float) (g h : Page) → Based centers v g → Later g h → Based centers v h
based_later centers v g h x y = record { many = omega (arith, x.many, y.count); kept = λ i l. y.kept i (omega (arith, x.many)) ∙ x.kept i l }

-- a ring on its way through the pen: p first, then u
pub record Inking (begin : ℕ) (p : Point) (u : List Point) (g : Page) : Type 0 where
  pub ends : g.pen.ends ≡ Some (record { first = p; last = last_or p u })
  pub stands : EntriesStand begin (p ∷ u) g

last_more : (p q : Point) (u : List Point) → last_or p (u ++ q ∷ []) ≡ q
last_more p q [] = refl
last_more p q (z ∷ u) = last_more z q u

module _ (b : BoundingBox) (centers : ℕ) (v : List Float) (corners : CornersIn b centers v) (small : centers < EMPTY) where
  module _ (g : Page) (based : Based centers v g) (q : Point) (number : ℕ) (numbered : Numbered centers v q number) where
    abbrev n : ℕ
    n = number_for b centers g.pen.count q number

    next_room : Roomy (written_as n g q) → n ≡ g.pen.count → 2 * g.pen.count + 1 < length g.vertices
    unfolding written_as count_with
    next_room r e = let z = rw (eq-eqb n g.pen.count e) at r.vertices in omega (arith, z, (written_later n g q).numbers)

    entry_room : Roomy (written_as n g q) → g.pen.at < length g.indexes
    unfolding written_as
    entry_room r = omega (arith, r.indexes, length-set g.indexes g.pen.at n)

    module _ (begin : ℕ) (ps : List Point) (s : EntriesStand begin ps g) (r : Roomy (written_as n g q)) where
      older : (k : ℕ) → k < length ps → get_or (written_as n g q).indexes (begin + k) 0 ≡ get_or g.indexes (begin + k) 0
      unfolding written_as
      older k l = get_or-set_other g.indexes g.pen.at (begin + k) n 0 (λ e. omega (arith, s.at))

      newest : get_or (written_as n g q).indexes (begin + length ps) 0 ≡ n
      unfolding written_as
      newest = ap (λ (i : ℕ). get_or (set g.indexes g.pen.at n) i 0) (sym s.at) ∙ get_or-set_same g.indexes g.pen.at n 0 (entry_room r)

      before : (k : ℕ) → k < length ps → get_or (ps ++ q ∷ []) k origin ≡ get_or ps k origin
      before k l = get_or-append ps (q ∷ []) origin k l

      there : get_or (ps ++ q ∷ []) (length ps) origin ≡ q
      there = let z : length ps ≡ length ps + 0 = omega arith in ap (λ (i : ℕ). get_or (ps ++ q ∷ []) i origin) z ∙ get_or-append-add ps (q ∷ []) 0 origin

      abbrev Right : ℕ → Point → Type 0
      Right e p = (e < (written_as n g q).pen.count) × Shown (written_as n g q).vertices e p

      old_right : (k : ℕ) → k < length ps → Right (get_or (written_as n g q).indexes (begin + k) 0) (get_or (ps ++ q ∷ []) k origin)
      old_right k l =
          let w = s.shown k l in
          let y = written_later n g q in
          rw (older k l, before k l)
          (omega (arith, w.0, y.count), shown_kept g.vertices (written_as n g q).vertices g.pen.count (get_or g.indexes (begin + k) 0) (get_or ps k origin) y.kept w.0 w.1)

      new_right : Right (get_or (written_as n g q).indexes (begin + length ps) 0) (get_or (ps ++ q ∷ []) (length ps) origin)
      new_right = rw (newest, there) (written_shown b centers v corners small g based q number numbered (next_room r))

      next_at : (written_as n g q).pen.at ≡ begin + length (ps ++ q ∷ [])
      unfolding written_as
      next_at = omega (arith, s.at, length-append ps (q ∷ []))

      pub stands_more : EntriesStand begin (ps ++ q ∷ []) (written_as n g q)
      stands_more = record {
        at = next_at;
        shown = λ k l. ⊎_elim
            (λ h. old_right k h)
            (λ h.
            let z : length ps ≡ k = omega (arith, length-append ps (q ∷ [])) in
            subst (λ (i : ℕ). Right (get_or (written_as n g q).indexes (begin + i) 0) (get_or (ps ++ q ∷ []) i origin)) z new_right)
            (lt_or_ge k (length ps));
      }

  ink_one : (g : Page) (q : Point) (number : ℕ) → Based centers v g → Numbered centers v q number → g.pen.ends ≡ None → (begin : ℕ) → g.pen.at ≡ begin
      → Roomy (written_as (number_for b centers g.pen.count q number) g q) → Inking begin q [] (written_as (number_for b centers g.pen.count q number) g q)
  unfolding written_as
  ink_one g q number based numbered none begin e r =
      record { ends = rw none refl; stands = stands_more g based q number numbered begin [] (stands_none begin g e) r }

  ink_new : (g : Page) (q : Point) (number : ℕ) → Based centers v g → Numbered centers v q number → (begin : ℕ) (p : Point) (u : List Point) → Inking begin p u g
      → Roomy (written_as (number_for b centers g.pen.count q number) g q) → Inking begin p (u ++ q ∷ []) (written_as (number_for b centers g.pen.count q number) g q)
  unfolding written_as
  ink_new g q number based numbered begin p u i r = record {
    ends = rw (i.ends, last_more p q u) refl;
    stands = stands_more g based q number numbered begin (p ∷ u) i.stands r;
  }

  -- the pen's own test, where a corner came before and where none did
  repeats_last : (g : Page) (q : Point) (begin : ℕ) (p : Point) (u : List Point) → Inking begin p u g → repeats g.pen q ≡ same_place (last_or p u) q
  unfolding repeats
  repeats_last g q begin p u i = rw i.ends refl

  repeats_none : (g : Page) (q : Point) → g.pen.ends ≡ None → repeats g.pen q ≡ false
  unfolding repeats
  repeats_none g q none = rw none refl

  inked_same : (g : Page) (q : Point) (number : ℕ) → repeats g.pen q ≡ true → inked b centers g q number ≡ g
  unfolding inked
  inked_same g q number same = rw same refl

  -- the corners after the first
  ink_rest : (g : Page) (l : Ring) → Based centers v g → AllNumbered centers v l → (begin : ℕ) (p : Point) (u : List Point) → Inking begin p u g → Roomy (feed_all (ink_at b centers) g l)
      → Inking begin p (u ++ unrepeated same_place (last_or p u) (places_of l)) (feed_all (ink_at b centers) g l)
  unfolding ink_at
  ink_rest g [] based numbered begin p u i r = subst (λ (z : List Point). Inking begin p z g) (sym (append-nil u)) i
  ink_rest g (c ∷ l) based numbered begin p u i r = go (λ h k w j m. ink_rest h l k numbered.1 begin p w j m) (same_place (last_or p u) q) refl
    where
      q : Point
      q = c.corner.place

      h : Page
      h = inked b centers g q c.corner.number

      go : ((h : Page) → Based centers v h → (u : List Point) → Inking begin p u h → Roomy (feed_all (ink_at b centers) h l)
          → Inking begin p (u ++ unrepeated same_place (last_or p u) (places_of l)) (feed_all (ink_at b centers) h l)) → (t : Bool) → same_place (last_or p u) q ≡ t
          → Inking begin p (u ++ skip t (unrepeated same_place (last_or p u) (places_of l)) (q ∷ unrepeated same_place q (places_of l))) (feed_all (ink_at b centers) h l)
      go on true e =
          let same : h ≡ g = inked_same g q c.corner.number (repeats_last g q begin p u i ∙ e) in
          on h (rw same based) u (rw same i) r
      go on false e =
          let new : h ≡ written_as (number_for b centers g.pen.count q c.corner.number) g q = inked_new b centers g q c.corner.number (repeats_last g q begin p u i ∙ e) in
          let room : Roomy h = roomy_before (all_grows (λ z. z) (ink_at b centers) (ink_grows b [] centers) h l) r in
          let next : Inking begin p (u ++ q ∷ []) h = rw new (ink_new g q c.corner.number based numbered.0 begin p u i (rw new at room)) in
          let rest = on h (based_later centers v g h based (inked_later b centers g q c.corner.number)) (u ++ q ∷ []) next r in
          subst (λ (z : List Point). Inking begin p z (feed_all (ink_at b centers) h l)) (list_is u) rest
        where
          list_is : (u : List Point) → (u ++ q ∷ []) ++ unrepeated same_place (last_or p (u ++ q ∷ [])) (places_of l) ≡ u ++ (q ∷ unrepeated same_place q (places_of l))
          list_is u = rw (last_more p q u) (append_assoc u (q ∷ []) (unrepeated same_place q (places_of l)))

  -- all corners of a ring, from a page where none came
  pub inked_all : (g : Page) (c : At Corner Carrier) (l : Ring) → Based centers v g → AllNumbered centers v (c ∷ l) → g.pen.ends ≡ None → (begin : ℕ) → g.pen.at ≡ begin
      → Roomy (feed_all (ink_at b centers) g (c ∷ l)) → Inking begin c.corner.place (unrepeated same_place c.corner.place (places_of l)) (feed_all (ink_at b centers) g (c ∷ l))
  unfolding ink_at
  inked_all g c l based numbered none begin e r =
      let q : Point = c.corner.place in
      let h : Page = inked b centers g q c.corner.number in
      let new : h ≡ written_as (number_for b centers g.pen.count q c.corner.number) g q = inked_new b centers g q c.corner.number (repeats_none g q none) in
      let room : Roomy h = roomy_before (all_grows (λ z. z) (ink_at b centers) (ink_grows b [] centers) h l) r in
      let next : Inking begin q [] h = rw new (ink_one g q c.corner.number based numbered.0 none begin e (rw new at room)) in
      ink_rest h l (based_later centers v g h based (inked_later b centers g q c.corner.number)) numbered.1 begin q [] next r
