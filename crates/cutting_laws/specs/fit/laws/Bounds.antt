-- What a ring that goes through the pen takes at most: an entry for each corner, and a vertex for each that is fresh (`ink_bound`); of a cut ring of the mesh that is bound by the names of its
-- edges (`ring_bound`).
use Rattle.std.specs.Prelude.{◌≡◌, Bool, [], ◌∷◌, ◌⊎◌, ℕ, ◌+◌, ◌≤◌, ◌<◌, length}
use Rattle.std.proofs.Math.Path.{refl}
use Rattle.std.proofs.Math.Bool.{true, false}
use Rattle.std.proofs.Common.{⊎_elim}
use native.Mathlib.Omega.{arith}
use Rattle.std.proofs.Math.Dec.{eqb}
use Rattle.std.specs.Float.Ieee.{eq}
use borrow.Author.Tests.{eqb-true, eqb-false}
use Rattle.base.specs.common.Pick.{pick}
use Rattle.base.specs.numbers.Numbers.{EMPTY}
use Rattle.plane.specs.declared.points.Point.{Point}
use Rattle.plane.specs.declared.boxes.BoundingBox.{BoundingBox}
use Rattle.cutting.specs.cuts.Rings.{At}
use Rattle.cutting.specs.cuts.Corners.{AllCorners}
use Rattle.cutting.specs.cuts.Stream.{feed_all}
use Rattle.cutting.specs.declared.corner.Corner.{Corner}
use Rattle.cutting.specs.declared.corner.Carrier.{Carrier}
use Rattle.cutting.specs.sides.Inside.{AllNear}
use Rattle.cutting.specs.pen.Pen.{column_number, corner_number, number_for, count_with, repeats, Page, written_as, inked}
use Rattle.cutting.specs.pen.Room.{inked_later}
use Rattle.cutting_writer.specs.stream.Stages.{Ring, ink_at}
use Rattle.cutting.specs.rooms.laws.Fresh.{flag, fresh_in}
use Rattle.cutting_laws.specs.fit.laws.FreshCorners.{no_corner, fresh, bisects}

-- a circumcenter's number, or none
abbrev pub HasNumber : ℕ → Corner → Type 0
HasNumber centers c = (c.number ≡ EMPTY) ⊎ (c.number < centers)

-- ---- what the pen takes
module _ (b : BoundingBox) (centers : ℕ) where
  corner_new : (p : Point) (count : ℕ) → centers + 4 ≤ count → corner_number b centers p count ≡ count → no_corner b p ≡ true
  unfolding no_corner corner_number column_number
  corner_new p count l = go (eq p.x b.left) (eq p.x b.right) (eq p.y b.top) (eq p.y b.bottom)
    where
      go : (x y t m : Bool) → pick x (λ _. pick t (λ _. centers) (λ _. pick m (λ _. centers + 1) (λ _. count)))
          (λ _. pick y (λ _. pick t (λ _. centers + 3) (λ _. pick m (λ _. centers + 2) (λ _. count))) (λ _. count)) ≡ count
          → eqb (pick x (λ _. pick t (λ _. 0) (λ _. pick m (λ _. 1) (λ _. 4))) (λ _. pick y (λ _. pick t (λ _. 3) (λ _. pick m (λ _. 2) (λ _. 4))) (λ _. 4))) 4 ≡ true
      go true y true m h = absurd (omega arith)
      go true y false true h = absurd (omega arith)
      go true y false false h = refl
      go false true true m h = absurd (omega arith)
      go false true false true h = absurd (omega arith)
      go false true false false h = refl
      go false false t m h = refl

  -- a number that is the next is that of a fresh corner
  next_fresh : (c : Corner) (count : ℕ) → c.far ≡ false → HasNumber centers c → centers + 4 ≤ count → number_for b centers count c.place c.number ≡ count → fresh b c ≡ true
  unfolding number_for
  next_fresh c count near has l = go (eqb c.number EMPTY) refl
    where
      go : (t : Bool) → eqb c.number EMPTY ≡ t → pick t (λ _. corner_number b centers c.place count) (λ _. c.number) ≡ count → fresh b c ≡ true
      go true q h = rw (near, q, corner_new c.place count l h) refl
      go false q h = absurd (⊎_elim (λ e. eqb-false c.number EMPTY q e) (λ e. omega arith) has)

  counted_one : (c : Corner) (count : ℕ) → c.far ≡ false → HasNumber centers c → centers + 4 ≤ count
      → count_with (number_for b centers count c.place c.number) count ≤ count + flag (fresh b c)
  unfolding count_with
  counted_one c count near has l = go (eqb (number_for b centers count c.place c.number) count) refl
    where
      go : (t : Bool) → eqb (number_for b centers count c.place c.number) count ≡ t → pick t (λ _. count + 1) (λ _. count) ≤ count + flag (fresh b c)
      go true q = rw (next_fresh c count near has l (eqb-true (number_for b centers count c.place c.number) count q)) (omega arith)
      go false q = omega arith

  pub record Takes (entries points : ℕ) (g h : Page) : Type 0 where
    pub entries_most : h.pen.at ≤ g.pen.at + entries
    pub points_most : h.pen.count ≤ g.pen.count + points

  wrote : (g : Page) (c : Corner) → c.far ≡ false → HasNumber centers c → centers + 4 ≤ g.pen.count
      → Takes 1 (flag (fresh b c)) g (written_as (number_for b centers g.pen.count c.place c.number) g c.place)
  unfolding written_as
  wrote g c near has l = record { entries_most = omega arith; points_most = counted_one c g.pen.count near has l }

  ink_one : (g : Page) (v : At Corner Carrier) → v.corner.far ≡ false → HasNumber centers v.corner → centers + 4 ≤ g.pen.count
      → Takes 1 (flag (fresh b v.corner)) g (ink_at b centers g v)
  unfolding ink_at inked
  ink_one g v near has l = go (repeats g.pen v.corner.place) (wrote g v.corner near has l)
    where
      go : (t : Bool) → Takes 1 (flag (fresh b v.corner)) g (written_as (number_for b centers g.pen.count v.corner.place v.corner.number) g v.corner.place)
          → Takes 1 (flag (fresh b v.corner)) g (pick t (λ _. g) (λ _. written_as (number_for b centers g.pen.count v.corner.place v.corner.number) g v.corner.place))
      go true w = record { entries_most = omega arith; points_most = omega arith }
      go false w = w

  ink_grows_count : (g : Page) (v : At Corner Carrier) → g.pen.count ≤ (ink_at b centers g v).pen.count
  unfolding ink_at
  ink_grows_count g v = (inked_later b centers g v.corner.place v.corner.number).count

  pub ink_bound : (l : Ring) → AllNear l → AllCorners (HasNumber centers) l → (g : Page) → centers + 4 ≤ g.pen.count
      → Takes (length l) (fresh_in (fresh b) bisects l) g (feed_all (ink_at b centers) g l)
  ink_bound [] near has g many = record { entries_most = omega arith; points_most = omega arith }
  ink_bound (v ∷ l) near has g many =
      let one = ink_one g v near.0 has.0 many in
      let rest = ink_bound l near.1 has.1 (ink_at b centers g v) (omega (arith, ink_grows_count g v)) in
      record { entries_most = omega (arith, one.entries_most, rest.entries_most); points_most = omega (arith, one.points_most, rest.points_most) }
