-- What is asked of a mesh on the grid: each triangle turns counter-clockwise with Y downward, and across each paired half-edge the far site is not
-- strictly inside the circle. The answer is a Result; its numbers are given here and nowhere else.
use Rattle.std.specs.Prelude.{◌≡◌, true, false, List, [], ◌∷◌, ◌≢◌, ℕ, ◌+◌, ◌*◌, ◌/◌, ℤ, length, get_or, ⊤, Result, Ok, Err}
use Rattle.base.specs.common.Refusals.{Rule, each}
use Rattle.base.specs.numbers.Numbers.{EMPTY}
use Rattle.base.specs.refusal.Number.{number_of}
use Rattle.mesh.specs.Mesh.{next_of, start_of, end_of, pair_of}
use Rattle.grid.specs.Plane.{place_at, turns_left, strictly_inside}
use Rattle.grid.specs.declared.scan.GridFault.{GridFault}
use Rattle.grid.specs.declared.scan.GridFault.TheVariants.{Triangle, Halfedge, Refused}

-- the third site of a half-edge's triangle
abbrev pub apex_of : List ℕ → ℕ → ℕ
apex_of tri e = get_or tri (next_of (next_of e)) 0

abbrev pub TurnAt : List ℤ → List ℕ → ℕ → Type 0
TurnAt grid tri t = turns_left (place_at grid (get_or tri (3 * t) 0)) (place_at grid (get_or tri (3 * t + 1) 0)) (place_at grid (get_or tri (3 * t + 2) 0)) ≡ true

-- the far site is the third one of the pair's triangle
abbrev pub CircleAt : List ℤ → List ℕ → List ℕ → ℕ → Type 0
CircleAt grid tri he e =
    pair_of he e ≢ EMPTY
    → strictly_inside (place_at grid (start_of tri e)) (place_at grid (end_of tri e)) (place_at grid (apex_of tri e)) (place_at grid (apex_of tri (pair_of he e))) ≡ false

-- that everything holds, or what does not
abbrev pub GridAnswer : Type 0
GridAnswer = Result ⊤ GridFault

-- triangles first
abbrev pub judge_rules : List ℤ → List ℕ → List ℕ → List (Rule GridAnswer)
judge_rules grid tri he = each (λ t. Err (Triangle t)) (length tri / 3) (TurnAt grid tri) ∷ each (λ e. Err (Halfedge e)) (length tri) (CircleAt grid tri he) ∷ []

-- ---- an answer as numbers: the refusal, the kind, the place
abbrev pub grid_number : GridAnswer → ℕ
grid_number (Ok _) = 0
grid_number (Err (Triangle t)) = 0
grid_number (Err (Halfedge e)) = 0
grid_number (Err (Refused r)) = number_of r

abbrev pub grid_kind : GridAnswer → ℕ
grid_kind (Ok _) = 0
grid_kind (Err (Triangle t)) = 1
grid_kind (Err (Halfedge e)) = 2
grid_kind (Err (Refused r)) = EMPTY

abbrev pub grid_place : GridAnswer → ℕ
grid_place (Ok _) = EMPTY
grid_place (Err (Triangle t)) = t
grid_place (Err (Halfedge e)) = e
grid_place (Err (Refused r)) = EMPTY
