-- An output slice beside the admission of a mesh: left alone up to 6 and after 0, cleared from 7 on.
use Rattle.std.specs.Prelude.{◌≡◌, List, ℕ, ◌≤◌, ◌<◌, length, replicate}
use Rattle.std.proofs.Common.{lt-ltb, le-ltb}
use Rattle.base.specs.numbers.Numbers.{EMPTY, refused_triangle}
use Rattle.mesh.specs.Accepted.{Mesh}
use Rattle.admission.specs.Admission.{Admission, roomy_of, ListAdmission}

module _ {m : Mesh} {asked : ℕ} {w w' : List ℕ} {r : ℕ} (a : Admission m (roomy_of m.sites w) asked w w' r) where
  pub left_out : (o : List ℕ) → r < refused_triangle → ListAdmission m asked w w' o o r
  left_out o l = record { admission = a; out = rw (lt-ltb r refused_triangle l) }

  pub cleared_out : (o o' : List ℕ) → refused_triangle ≤ r → o' ≡ replicate (length o) EMPTY → ListAdmission m asked w w' o o' r
  cleared_out o o' l q = record { admission = a; out = rw (le-ltb r refused_triangle l) q }
