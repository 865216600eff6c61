-- What cutting is lent once the rules up to 10 are tried: the number, and each slice then.
use Rattle.std.specs.Prelude.{◌≡◌, Bool, true, ℕ, ◌/◌, ◌≤◌}
use Rattle.base.specs.common.Binary64.{zero}
use Rattle.base.specs.numbers.Numbers.{EMPTY}
use Rattle.mesh.specs.Accepted.{Mesh, Counted}
use Rattle.mesh_check.specs.whole.AtExit.{when_refused}
use Rattle.admission.specs.Admission.{Admission}
use Rattle.cutting_calls.specs.cut_admission.CutSlices.{CutSlices, cut_room_for, cut_room_of}

-- the answer to rule 2 where rule 1 holds; never yes without a work entry for each site
pub record CutRoomAnswer (coordinates entries halfedges hull work numbers indexes offsets : ℕ) (r : Bool) : Type 0 where
  pub right : Counted coordinates entries halfedges hull → r ≡ cut_room_for (coordinates / 2) (entries / 3) hull work numbers indexes offsets
  pub table : r ≡ true → coordinates / 2 ≤ work

pub record CutAdmission (m : Mesh) (asked : ℕ) (old new : CutSlices) (r : ℕ) : Type 0 where
  pub admission : Admission m (cut_room_of m old) asked old.work new.work r
  pub vertices : new.vertices ≡ when_refused zero old.vertices r
  pub indexes : new.indexes ≡ when_refused EMPTY old.indexes r
  pub offsets : new.offsets ≡ when_refused EMPTY old.offsets r
