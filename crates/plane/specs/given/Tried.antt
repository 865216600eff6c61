-- Rule 3 of a box, then rule 6 of the points of a call: what is refused.
use Rattle.std.specs.Prelude.{Bool, Result, Ok, Err}
use Prim.{tt}
use Rattle.base.specs.common.Pick.{pick}
use Rattle.base.specs.declared.refusal.Refusal.{Refusal}
use Rattle.base.specs.declared.refusal.Refusal.TheVariants.{Box, Coordinate}

abbrev pub tried_by : Bool → Bool → Result (Unit {0}) Refusal
tried_by frame points = pick frame (λ _. pick points (λ _. Ok tt) (λ _. Err Coordinate)) (λ _. Err Box)
