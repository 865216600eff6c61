-- What is told beside a refusal's number, and a crossing as numbers.
use Rattle.std.specs.Prelude.{◌≡◌, [], ◌∷◌}
use Rattle.base.specs.common.Binary64.{zero}
use Rattle.plane.specs.declared.lines.Crossing.{Crossing}
use Rattle.plane.specs.rays.Rules.{count_of, values_of}
use Rattle.plane_calls.specs.declared.BoxEdges.{BoxEdges}
use Rattle.plane_calls.specs.declared.BoxCenter.{BoxCenter}
use Rattle.plane_calls.specs.declared.Met.{Met}

abbrev pub no_edges : BoxEdges
no_edges = record { left = zero; top = zero; right = zero; bottom = zero; across = zero; down = zero }

abbrev pub no_center : BoxCenter
no_center = record { x = zero; y = zero; across = zero; down = zero }

abbrev pub nowhere : Met
nowhere = record { count = 0; x = zero; y = zero; u = zero; v = zero }

-- how many points, and their coordinates, 0 where there is none
pub record IsMet (c : Crossing) (m : Met) : Type 0 where
  pub count : m.count ≡ count_of c
  pub values : m.x ∷ m.y ∷ m.u ∷ m.v ∷ [] ≡ values_of c
