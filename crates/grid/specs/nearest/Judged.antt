-- The answer as a Result: that of the check on the grid, or that on the hull. Its numbers are given here and nowhere else.
use Rattle.std.specs.Prelude.{ℕ, ⊤, Result, Ok, Err}
use Rattle.base.specs.numbers.Numbers.{EMPTY}
use Rattle.grid.specs.scan.Judged.{GridAnswer, grid_number, grid_kind, grid_place}
use Rattle.grid.specs.border.ShortForm.{HullVerdict}
use Rattle.grid.specs.declared.nearest.NearestFault.{NearestFault}
use Rattle.grid.specs.declared.nearest.NearestFault.TheVariants.{Grid, Hull}

-- that everything holds, or what does not
abbrev pub NearestAnswer : Type 0
NearestAnswer = Result ⊤ NearestFault

abbrev pub of_grid : GridAnswer → NearestAnswer
of_grid (Ok _) = Ok tt
of_grid (Err f) = Err (Grid f)

abbrev pub of_hull : HullVerdict → NearestAnswer
of_hull (Ok _) = Ok tt
of_hull (Err f) = Err (Hull f)

-- ---- an answer as numbers: the refusal, the kind, the place
abbrev pub nearest_number : NearestAnswer → ℕ
nearest_number (Ok _) = 0
nearest_number (Err (Grid f)) = grid_number (Err f)
nearest_number (Err (Hull f)) = 0

abbrev pub nearest_kind : NearestAnswer → ℕ
nearest_kind (Ok _) = 0
nearest_kind (Err (Grid f)) = grid_kind (Err f)
nearest_kind (Err (Hull f)) = 3

abbrev pub nearest_place : NearestAnswer → ℕ
nearest_place (Ok _) = EMPTY
nearest_place (Err (Grid f)) = grid_place (Err f)
nearest_place (Err (Hull f)) = f.place
