-- Room for what the pen writes. It is asked of the page as it will be, since nothing that is counted falls (`inked_later`).
use Rattle.std.specs.Prelude.{◌≡◌, Bool, true, false, List, ℕ, ◌+◌, ◌*◌, ◌≤◌, ◌<◌, eqb, Float, length, get_or, set}
use Rattle.std.proofs.Math.Path.{refl}
use Rattle.std.proofs.Common.{sym, ◌∙◌, arith, eq-eqb, eqb-true, get_or-set_other}
use Rattle.std.specs.Float.{nan}
use Rattle.std.specs.Float.Ieee.{eq}
use Rattle.std.proofs.Math.ListN.{length-set}
use Rattle.base.specs.common.Pick.{pick}
use Rattle.base.specs.numbers.Numbers.{EMPTY}
use Rattle.plane.specs.declared.points.Point.{Point}
use Rattle.plane.specs.declared.boxes.BoundingBox.{BoundingBox}
use Rattle.cutting.specs.pen.Pen.{column_number, corner_number, number_for, count_with, added_vertex, repeats, Page, written_as, inked}

-- what the pen counts lies within the slices, and has a number
pub record Roomy (g : Page) : Type 0 where
  pub vertices : 2 * g.pen.count ≤ length g.vertices
  pub indexes : g.pen.at ≤ length g.indexes
  pub small : g.pen.count ≤ EMPTY

-- from page g to page h: the box's corners stand after the circumcenters, and there is room for what is written
pub record Ready (centers : ℕ) (g h : Page) : Type 0 where
  pub corners : centers + 4 ≤ g.pen.count
  pub room : Roomy h

-- h comes after g
pub record Later (g h : Page) : Type 0 where
  pub at : g.pen.at ≤ h.pen.at
  pub count : g.pen.count ≤ h.pen.count
  pub numbers : length h.vertices ≡ length g.vertices
  pub entries : length h.indexes ≡ length g.indexes
  pub kept : (i : ℕ) → i < 2 * g.pen.count → get_or h.vertices i nan ≡ get_or g.vertices i nan

pub later_same : (g : Page) → Later g g
later_same g = record { at = omega arith; count = omega arith; numbers = refl; entries = refl; kept = λ i l. refl }

pub later_on : {f g h : Page} → Later f g → Later g h → Later f h
later_on x y = record {
  at = omega arith;
  count = omega arith;
  numbers = y.numbers ∙ x.numbers;
  entries = y.entries ∙ x.entries;
  kept = λ i l. y.kept i (omega (arith, x.count)) ∙ x.kept i l;
}

pub roomy_before : {g h : Page} → Later g h → Roomy h → Roomy g
roomy_before x r = record { vertices = omega (arith, x.numbers); indexes = omega (arith, x.entries); small = omega arith }

pub corners_later : {g h : Page} (centers : ℕ) → Later g h → centers + 4 ≤ g.pen.count → centers + 4 ≤ h.pen.count
corners_later centers x r = omega arith

count_grows : (n c : ℕ) → c ≤ count_with n c
unfolding count_with
count_grows n c = go (eqb n c)
  where
    go : (t : Bool) → c ≤ pick t (λ _. c + 1) (λ _. c)
    go true = omega arith
    go false = omega arith

added_long : (n c : ℕ) (p : Point) (v : List Float) → length (added_vertex n c p v) ≡ length v
unfolding added_vertex
added_long n c p v = go (eqb n c)
  where
    go : (t : Bool) → length (pick t (λ _. set (set v (2 * n) p.x) (2 * n + 1) p.y) (λ _. v)) ≡ length v
    go true = simp length-set
    go false = refl

added_kept : (n c : ℕ) (p : Point) (v : List Float) (i : ℕ) → i < 2 * c → get_or (added_vertex n c p v) i nan ≡ get_or v i nan
unfolding added_vertex
added_kept n c p v i l = go (eqb n c) refl
  where
    go : (t : Bool) → eqb n c ≡ t → get_or (pick t (λ _. set (set v (2 * n) p.x) (2 * n + 1) p.y) (λ _. v)) i nan ≡ get_or v i nan
    go true q =
        let z : n ≡ c = eqb-true n c q in
        get_or-set_other (set v (2 * n) p.x) (2 * n + 1) i p.y nan (λ e. omega arith) ∙ get_or-set_other v (2 * n) i p.x nan (λ e. omega arith)
    go false q = refl

pub written_later : (n : ℕ) (g : Page) (p : Point) → Later g (written_as n g p)
unfolding written_as
written_later n g p = record {
  at = omega arith;
  count = count_grows n g.pen.count;
  numbers = added_long n g.pen.count p g.vertices;
  entries = simp length-set;
  kept = added_kept n g.pen.count p g.vertices;
}

pub inked_later : (b : BoundingBox) (centers : ℕ) (g : Page) (p : Point) (number : ℕ) → Later g (inked b centers g p number)
unfolding inked
inked_later b centers g p number = go (repeats g.pen p)
  where
    go : (t : Bool) → Later g (pick t (λ _. g) (λ _. written_as (number_for b centers g.pen.count p number) g p))
    go true = later_same g
    go false = written_later (number_for b centers g.pen.count p number) g p

-- a number is at most the next
column_small : (y t m : Float) (u l n : ℕ) → u ≤ n → l ≤ n → column_number y t m u l n ≤ n
unfolding column_number
column_small y t m u l n a c = go (eq y t) (eq y m)
  where
    go : (s z : Bool) → pick s (λ _. u) (λ _. pick z (λ _. l) (λ _. n)) ≤ n
    go true z = a
    go false true = c
    go false false = omega arith

pub corner_small : (b : BoundingBox) (centers : ℕ) (p : Point) (n : ℕ) → centers + 4 ≤ n → corner_number b centers p n ≤ n
unfolding corner_number
corner_small b centers p n h = go (eq p.x b.left) (eq p.x b.right)
  where
    go : (s z : Bool) → pick s (λ _. column_number p.y b.top b.bottom centers (centers + 1) n)
        (λ _. pick z (λ _. column_number p.y b.top b.bottom (centers + 3) (centers + 2) n) (λ _. n)) ≤ n
    go true z = column_small p.y b.top b.bottom centers (centers + 1) n (omega arith) (omega arith)
    go false true = column_small p.y b.top b.bottom (centers + 3) (centers + 2) n (omega arith) (omega arith)
    go false false = omega arith

pub number_small : (b : BoundingBox) (centers count : ℕ) (p : Point) (number : ℕ) → centers + 4 ≤ count → count ≤ EMPTY → number ≤ EMPTY → number_for b centers count p number ≤ EMPTY
unfolding number_for
number_small b centers count p number h k l = go (eqb number EMPTY)
  where
    go : (t : Bool) → pick t (λ _. corner_number b centers p count) (λ _. number) ≤ EMPTY
    go true = omega (arith, corner_small b centers p count h)
    go false = l

-- what writing n asks
pub record Writable (n : ℕ) (g : Page) : Type 0 where
  pub entry : g.pen.at < length g.indexes
  pub vertex : n ≡ g.pen.count → 2 * g.pen.count + 1 < length g.vertices
  pub next : n ≡ g.pen.count → g.pen.count < EMPTY
  pub small : n ≤ EMPTY

module _ (b : BoundingBox) (centers : ℕ) (g : Page) (p : Point) (number : ℕ) (new : repeats g.pen p ≡ false) where
  pub inked_new : inked b centers g p number ≡ written_as (number_for b centers g.pen.count p number) g p
  unfolding inked
  inked_new = rw new refl

  pub writable : Ready centers g (inked b centers g p number) → number ≤ EMPTY → (n : ℕ) → n ≡ number_for b centers g.pen.count p number → Writable n g
  unfolding written_as count_with
  writable k small n q =
      let m = number_for b centers g.pen.count p number in
      let r : Roomy (written_as m g p) = rw inked_new at k.room in
      let grown = count_grows m g.pen.count in
      let next : n ≡ g.pen.count → count_with m g.pen.count ≡ g.pen.count + 1 = λ z. rw (eq-eqb m g.pen.count (sym q ∙ z)) refl in
      record {
        entry = omega (arith, r.indexes, length-set g.indexes g.pen.at m);
        vertex = λ z. omega (arith, r.vertices, added_long m g.pen.count p g.vertices, next z);
        next = λ z. omega (arith, r.small, next z);
        small = rw q (number_small b centers g.pen.count p number k.corners (omega (arith, r.small)) small);
      }

pub ready_few : {centers : ℕ} {g h : Page} → Later g h → Ready centers g h → centers < EMPTY
ready_few x k = omega (arith, k.room.small, x.count, k.corners)
