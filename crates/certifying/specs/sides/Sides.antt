-- The second and the third fault of a certificate. All sides of all rings stand in one list: side k runs from the vertex of entry k to the corner after it in its ring, from the last
-- corner to the first. Corners are places: vertices of equal coordinates are one, and -0 is 0. Definitions only.
use Rattle.std.specs.Prelude.{Bool, false, ◌&&◌, ◌||◌, List, [], ◌∷◌, ◌++◌, ℕ, zero, suc, ◌+◌, ◌-◌, eqb, ltb, Float, length, get_or}
use Rattle.std.specs.Float.Ieee.{eq}
use Rattle.base.specs.common.Count.{sum_to}
use Rattle.base.specs.common.Pick.{pick}
use Rattle.plane.specs.points.Flat.{point_at}
use Rattle.plane.specs.declared.points.Point.{Point}
use Rattle.plane.specs.declared.boxes.BoundingBox.{BoundingBox}
use Rattle.walks.specs.shared.Cells.{cell_of}
use Rattle.auditing.specs.places.Places.{same_of}

-- ---- where the sides of a ring end: at its corners from the second on, then at the first; and those of n rings from that of site s on
unfoldable pub ring_ends : List ℕ → List ℕ
ring_ends [] = []
ring_ends (e ∷ r) = r ++ e ∷ []

unfoldable pub ends_from : List ℕ → List ℕ → ℕ → ℕ → List ℕ
ends_from off ix s zero = []
ends_from off ix s (suc n) = ring_ends (cell_of off ix s) ++ ends_from off ix (suc s) n

abbrev pub ends_of : List ℕ → List ℕ → List ℕ
ends_of off ix = ends_from off ix 0 (length off - 1)

-- how many sides there are
abbrev pub side_count : List ℕ → ℕ
side_count off = get_or off (length off - 1) 0

-- ---- how many of the numbers below n a test takes
unfoldable pub one_for : Bool → ℕ
one_for t = pick t (λ _. 1) (λ _. 0)

abbrev pub how_many : (ℕ → Bool) → ℕ → ℕ
how_many p n = sum_to (λ k. one_for (p k)) n

-- ---- the second: `to` has the ends of n sides
-- side k runs from p to q
unfoldable pub runs_at : List Float → List ℕ → List ℕ → Point → Point → ℕ → Bool
runs_at v ix to p q k = same_of p (point_at v (get_or ix k 0)) && same_of q (point_at v (get_or to k 0))

-- both ends on the same edge of the box
unfoldable pub along_of : BoundingBox → Point → Point → Bool
along_of b p q =
    (eq p.x b.left && eq q.x b.left)
    || (eq p.x b.right && eq q.x b.right)
    || (eq p.y b.top && eq q.y b.top)
    || (eq p.y b.bottom && eq q.y b.bottom)

-- more run from p to q than back
unfoldable pub more_of : List Float → List ℕ → List ℕ → ℕ → Point → Point → Bool
more_of v ix to n p q = ltb (how_many (runs_at v ix to q p) n) (how_many (runs_at v ix to p q) n)

unfoldable pub surplus_of : BoundingBox → List Float → List ℕ → List ℕ → ℕ → Point → Point → Bool
surplus_of b v ix to n p q = pick (along_of b p q) (λ _. false) (λ _. more_of v ix to n p q)

-- side k is one of these
abbrev pub surplus_at : BoundingBox → List Float → List ℕ → List ℕ → ℕ → ℕ → Bool
surplus_at b v ix to n k = surplus_of b v ix to n (point_at v (get_or ix k 0)) (point_at v (get_or to k 0))

-- ---- the third
-- from the top right corner of the box along its top edge
unfoldable pub leaves_of : BoundingBox → Point → Point → Bool
leaves_of b p q = eq p.x b.right && eq p.y b.top && eq q.y b.top

abbrev pub leaves_at : BoundingBox → List Float → List ℕ → List ℕ → ℕ → Bool
leaves_at b v ix to k = leaves_of b (point_at v (get_or ix k 0)) (point_at v (get_or to k 0))

-- the other way
abbrev pub reaches_at : BoundingBox → List Float → List ℕ → List ℕ → ℕ → Bool
reaches_at b v ix to k = leaves_of b (point_at v (get_or to k 0)) (point_at v (get_or ix k 0))

unfoldable pub left_once : BoundingBox → List Float → List ℕ → List ℕ → ℕ → Bool
left_once b v ix to n = eqb (how_many (leaves_at b v ix to) n) (how_many (reaches_at b v ix to) n + 1)
