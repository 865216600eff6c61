-- A piece's corners as they are written: the vertex number of each place, and what is left of the slices. Definitions only.
use Rattle.std.specs.Prelude.{Bool, false, ◌&&◌, Option, Some, None, List, ℕ, ◌+◌, ◌*◌, eqb, Float, set}
use Rattle.std.specs.Float.Ieee.{eq}
use Rattle.base.specs.common.Pick.{pick}
use Rattle.base.specs.numbers.Numbers.{EMPTY}
use Rattle.plane.specs.declared.points.Point.{Point}
use Rattle.plane.specs.declared.boxes.BoundingBox.{BoundingBox}
use Rattle.cutting.specs.declared.pen.RingEnds.{RingEnds}
use Rattle.cutting.specs.declared.pen.Pen.{Pen}

abbrev pub same_place : Point → Point → Bool
same_place p q = eq p.x q.x && eq p.y q.y

unfoldable pub column_number : Float → Float → Float → ℕ → ℕ → ℕ → ℕ
column_number y top bottom upper lower none = pick (eq y top) (λ _. upper) (λ _. pick (eq y bottom) (λ _. lower) (λ _. none))

-- the number of the box's corner at p: after the circumcenters top left, bottom left, bottom right, top right
unfoldable pub corner_number : BoundingBox → ℕ → Point → ℕ → ℕ
corner_number b centers p none =
    pick (eq p.x b.left) (λ _. column_number p.y b.top b.bottom centers (centers + 1) none)
    (λ _. pick (eq p.x b.right) (λ _. column_number p.y b.top b.bottom (centers + 3) (centers + 2) none) (λ _. none))

-- a circumcenter keeps its number, a place at a corner of the box takes the corner's, any other is the next vertex
unfoldable pub number_for : BoundingBox → ℕ → ℕ → Point → ℕ → ℕ
number_for b centers count p number = pick (eqb number EMPTY) (λ _. corner_number b centers p count) (λ _. number)

unfoldable pub count_with : ℕ → ℕ → ℕ
count_with n count = pick (eqb n count) (λ _. count + 1) (λ _. count)

unfoldable pub added_vertex : ℕ → ℕ → Point → List Float → List Float
added_vertex n count p v = pick (eqb n count) (λ _. set (set v (2 * n) p.x) (2 * n + 1) p.y) (λ _. v)

-- whether p is the last place again
abbrev pub repeats_in : Option RingEnds → Point → Bool
repeats_in None p = false
repeats_in (Some e) p = same_place e.last p

unfoldable pub repeats : Pen → Point → Bool
repeats pen p = repeats_in pen.ends p

-- the ends with p for the last place
abbrev pub ends_with : Option RingEnds → Point → RingEnds
ends_with None p = record { first = p; last = p }
ends_with (Some e) p = record { first = e.first; last = p }

-- the pen and both slices
pub record Page : Type 0 where
  pub pen : Pen
  pub vertices : List Float
  pub indexes : List ℕ

abbrev pub page : Pen → List Float → List ℕ → Page
page pen v ix = record { pen = pen; vertices = v; indexes = ix }

abbrev pub pen_after : ℕ → Pen → Point → Pen
pen_after n pen p =
    record { at = pen.at + 1; count = count_with n pen.count; ends = Some (ends_with pen.ends p) }

unfoldable pub written_as : ℕ → Page → Point → Page
written_as n g p = page (pen_after n g.pen p) (added_vertex n g.pen.count p g.vertices) (set g.indexes g.pen.at n)

-- a place that comes twice in a row is written once
unfoldable pub inked : BoundingBox → ℕ → Page → Point → ℕ → Page
inked b centers g p number = pick (repeats g.pen p) (λ _. g) (λ _. written_as (number_for b centers g.pen.count p number) g p)

-- ---- a circumcenter that goes on with the ring: it has its number and its vertex, so only an entry is written
unfoldable pub pen_on : Pen → Point → Pen
pen_on pen p = pick (repeats pen p) (λ _. pen) (λ _. record { at = pen.at + 1; count = pen.count; ends = Some (ends_with pen.ends p) })

unfoldable pub entries_on : Pen → Point → ℕ → List ℕ → List ℕ
entries_on pen p n ix = pick (repeats pen p) (λ _. ix) (λ _. set ix pen.at n)

abbrev pub numbered_on : Page → Point → ℕ → Page
numbered_on g p n = page (pen_on g.pen p) g.vertices (entries_on g.pen p n g.indexes)
