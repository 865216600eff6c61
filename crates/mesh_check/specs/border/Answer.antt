-- What rule 9 answers: nothing, or its lowest offender, places of the hull before half-edges; and the marks that it leaves in the work slice.
use Rattle.std.specs.Prelude.{◌≡◌, List, ℕ, length, ⊤, Result, Ok}
use Rattle.base.specs.common.Decide.{First}
use Rattle.base.specs.common.Refusals.{Finds}
use Rattle.mesh.specs.declared.MeshFault.{MeshFault}
use Rattle.mesh.specs.Hull.{FreshAt}
use Rattle.mesh.specs.Faults.{hull_rules}
use Rattle.mesh_check.specs.border.Marks.{marks_to, left_to}

abbrev pub HullAnswer : List ℕ → List ℕ → List ℕ → ℕ → Result ⊤ MeshFault → Type 0
HullAnswer tri he hull sites = Finds (hull_rules tri he hull sites) (Ok tt)

-- n is the first place whose site is not fresh: the sites before it were marked with their places, and each unpaired half-edge to the next
-- took its mark off
abbrev pub MarksLeft : List ℕ → List ℕ → List ℕ → ℕ → List ℕ → List ℕ → Type 0
MarksLeft tri he hull sites old new =
    (n : ℕ) × First (FreshAt hull sites) (length hull) n × (new ≡ left_to tri he hull (marks_to hull (length old) n) (length tri))
