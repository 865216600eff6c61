-- The steps on the way to a reason: a refusal by the rules up to 10 with its place, and the whole of a build with what it met.
use Rattle.std.specs.Prelude.{◌≡◌, List, ◌≢◌, ℕ, ◌≤◌, ◌<◌, ⊤, Result}
use Rattle.base.specs.numbers.Numbers.{refused_coordinate}
use Rattle.mesh.specs.declared.MeshFault.{MeshFault}
use Rattle.mesh.specs.Accepted.{Mesh}
use Rattle.mesh_check.specs.whole.Answers.{MeshAnswer}
use Rattle.definition.specs.declared.Fault.{Fault}
use Rattle.definition.specs.Fault.{Outcome}
use Rattle.definition.specs.Build.{Built}
use Rattle.cell_memory.specs.outputs.Outputs.{fault_of}
use Rattle.admission.specs.Admits.{asked_rules}
use Rattle.admission.specs.Slices.{Slices, slices}
use Rattle.admission.specs.Admission.{BuildAdmission}
use Rattle.building.specs.answers.Promise.{BuildAnswers}
use Rattle.reasons.specs.declared.Reason.{Reason}
use Rattle.reasons.specs.declared.Reason.TheVariants.{Number}
use Rattle.reasons.specs.Reason.{of_mesh, of_fault}

-- below 6 the number alone; from 6 on what the check of the mesh finds
pub data Located (m : Mesh) (n : ℕ) (old new : List ℕ) : Reason → Type 0 where
  alone : n < refused_coordinate → new ≡ old → Located m n old new (Number n)
  placed : (f : Result ⊤ MeshFault) → refused_coordinate ≤ n → MeshAnswer m old new f → Located m n old new (of_mesh f)

-- refused by the rules up to 10, the slices being `mid` by then; or the build went its way
pub data Explains (m : Mesh) (asked : ℕ) (o : Outcome Fault Built) (old new : Slices) : Reason → Type 0 where
  early : {mid : Slices} {n : ℕ} {r : Reason} → BuildAdmission m asked old mid n → n ≢ 0 → Located m n mid.work new.work r
      → new ≡ slices new.work mid.vertices mid.indexes mid.offsets mid.counts → Explains m asked o old new r
  built : {mid : Slices} {n : ℕ} → BuildAdmission m asked old mid n → n ≡ 0 → BuildAnswers m (asked_rules asked) o old new (fault_of o).number
      → Explains m asked o old new (of_fault (fault_of o))
