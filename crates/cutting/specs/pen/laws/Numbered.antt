-- Of a circumcenter the pen writes an entry and no vertex (`inked_numbered`), and nothing that is counted falls (`numbered_later`).
use Rattle.std.specs.Prelude.{◌≡◌, Bool, Some, ℕ, ◌+◌, ◌≤◌, ◌<◌}
use Rattle.std.proofs.Math.Path.{refl}
use Rattle.std.proofs.Math.Bool.{true, false}
use Rattle.std.proofs.Common.{arith}
use borrow.Author.Tests.{ne_eqb}
use Rattle.std.proofs.Math.ListN.{set, length-set}
use Rattle.base.specs.common.Pick.{pick}
use Rattle.base.specs.numbers.Numbers.{EMPTY}
use Rattle.plane.specs.declared.points.Point.{Point}
use Rattle.plane.specs.declared.boxes.BoundingBox.{BoundingBox}
use Rattle.cutting.specs.declared.pen.Pen.{Pen}
use Rattle.cutting.specs.pen.Pen.{number_for, count_with, added_vertex, repeats, ends_with, Page, page, written_as, inked, pen_on, entries_on, numbered_on}
use Rattle.cutting.specs.pen.Room.{Later}

module _ (g : Page) (p : Point) (n : ℕ) where
  pub inked_numbered : (b : BoundingBox) (centers : ℕ) → n < EMPTY → n < g.pen.count → inked b centers g p n ≡ numbered_on g p n
  unfolding inked written_as number_for count_with added_vertex pen_on entries_on
  inked_numbered b centers few old = rw (ne_eqb n EMPTY (λ e. omega arith), ne_eqb n g.pen.count (λ e. omega arith)) (go (repeats g.pen p))
    where
      go : (t : Bool) → pick t (λ _. g) (λ _. page (record { at = g.pen.at + 1; count = g.pen.count; ends = Some (ends_with g.pen.ends p) })
          g.vertices (set g.indexes g.pen.at n))
          ≡ page (pick t (λ _. g.pen) (λ _. record { at = g.pen.at + 1; count = g.pen.count; ends = Some (ends_with g.pen.ends p) })) g.vertices
          (pick t (λ _. g.indexes) (λ _. set g.indexes g.pen.at n))
      go true = refl
      go false = refl

  pub numbered_later : Later g (numbered_on g p n)
  unfolding pen_on entries_on
  numbered_later = go (repeats g.pen p)
    where
      go : (t : Bool) → Later g (page (pick t (λ _. g.pen) (λ _. record { at = g.pen.at + 1; count = g.pen.count; ends = Some (ends_with g.pen.ends p) }))
          g.vertices (pick t (λ _. g.indexes) (λ _. set g.indexes g.pen.at n)))
      go true = record { at = omega arith; count = omega arith; numbers = refl; entries = refl; kept = λ i l. refl }
      go false = record { at = omega arith; count = omega arith; numbers = refl; entries = length-set g.indexes g.pen.at n; kept = λ i l. refl }

pub room_on : (pen : Pen) (p : Point) (k : ℕ) → repeats pen p ≡ false → (pen_on pen p).at ≤ k → pen.at < k
unfolding pen_on
room_on pen p k new h = let l : pen.at + 1 ≤ k = rw new at h in omega arith
