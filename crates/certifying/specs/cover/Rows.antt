-- Rows: "square", twice as large and moved up: its four pieces leave the corner once, have twice the area 2 * 4 more gained than lost, and the first covers the place (0, 0) once.
use Rattle.std.specs.Prelude.{◌≡◌, refl, List, [], ◌∷◌, ℕ, ◌*◌}
use Rattle.certifying.specs.cover.Sums.{WholePlace, sum_ring, sum_all, sum_from}
use Rattle.certifying.specs.cover.Cover.{comes_up, leaves}

abbrev pub corner : ℕ → ℕ → WholePlace
corner x y = record { x = x; y = y }

abbrev pub first : List WholePlace
first = corner 0 0 ∷ corner 0 1 ∷ corner 1 1 ∷ corner 1 0 ∷ []

abbrev pub square_rings : List (List WholePlace)
square_rings =
    first
    ∷ (corner 0 1 ∷ corner 0 2 ∷ corner 1 2 ∷ corner 1 1 ∷ [])
    ∷ (corner 1 1 ∷ corner 1 2 ∷ corner 2 2 ∷ corner 2 1 ∷ [])
    ∷ (corner 1 0 ∷ corner 1 1 ∷ corner 2 1 ∷ corner 2 0 ∷ [])
    ∷ []

pub left_once_lem : sum_all (leaves 0 0 2 2) square_rings ≡ 1
unfolding sum_all sum_ring sum_from leaves
left_once_lem = refl

pub never_reached : sum_all (λ p q. leaves 0 0 2 2 q p) square_rings ≡ 0
unfolding sum_all sum_ring sum_from leaves
never_reached = refl

pub gained : sum_all (λ p q. p.y * q.x) square_rings ≡ 20
unfolding sum_all sum_ring sum_from
gained = refl

pub lost : sum_all (λ p q. p.x * q.y) square_rings ≡ 12
unfolding sum_all sum_ring sum_from
lost = refl

pub ways_up : sum_ring (comes_up 0 0) first ≡ 1
unfolding sum_ring sum_from comes_up
ways_up = refl

pub ways_down : sum_ring (λ p q. comes_up 0 0 q p) first ≡ 0
unfolding sum_ring sum_from comes_up
ways_down = refl
