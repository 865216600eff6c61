-- The promise of the call for a reason: the number, the kind, the places and each lent slice at exit. What a reason says, and that it is true: crates reasons and reason_truth.
use Rattle.std.specs.Prelude.{ℕ}
use Rattle.plane.specs.declared.given.Given.{Given}
use Rattle.mesh.specs.Accepted.{Mesh}
use Rattle.admission.specs.Slices.{Slices}
use Rattle.reasons.specs.declared.ReasonNumbers.{ReasonNumbers}
use Rattle.reasons.specs.call.Call.{question_of, WhyCall}

-- in the given box: 1, 2, 3, 4 on each site asked about, 6, 7 to 10, 11 to 14, then what was asked
abbrev pub Why : Mesh → Given → ℕ → ℕ → ℕ → Slices → Slices → ReasonNumbers → Type 0
Why m g asked first second = WhyCall m g (question_of asked first second)
