-- The rules up to 10 with a cutting's own rule 2, and the lent slices after them.
use Rattle.std.specs.Prelude.{◌≡◌, Bool, true, List, [], ℕ, ◌≤◌, ◌<◌, Float, length}
use Rattle.std.proofs.Common.{sym, ◌∙◌, lt-ltb, le-ltb}
use Rattle.std.proofs.Math.Nat.{sub-zero}
use Rattle.base.specs.common.Binary64.{zero}
use Rattle.base.specs.numbers.Numbers.{EMPTY, refused_triangle}
use Rattle.mesh.specs.Accepted.{Mesh}
use Rattle.cell_memory.specs.layout.Cleared.{padded}
use Rattle.admission.specs.Admission.{Admission}
use Rattle.admission.specs.laws.Admits.{admits_room}
use Rattle.cutting_calls.specs.cut_admission.CutSlices.{cut_slices, cut_room_of}
use Rattle.cutting_calls.specs.cut_admission.CutAdmission.{CutRoomAnswer, CutAdmission}

module _ (m : Mesh) (asked : ℕ) (w w' : List ℕ) (v : List Float) (ix off : List ℕ) (roomy : Bool) (r : ℕ)
    (room : CutRoomAnswer (length m.sites) (length m.triangles) (length m.halfedges) (length m.hull) (length w) (length v) (length ix) (length off) roomy)
    (a : Admission m roomy asked w w' r) where
  -- where rule 1 is broken the test of rule 2 does not count
  admission : Admission m (cut_room_of m (cut_slices w v ix off)) asked w w' r
  admission = record {
    number = record { found = admits_room m (cut_room_of m (cut_slices w v ix off) ≡ true) (λ k. (λ e. sym (room.right k) ∙ e, λ e. room.right k ∙ e)) a.number };
    work = a.work;
  }

  -- up to 6 and after 0 no output has changed
  pub left_alone : r < refused_triangle → CutAdmission m asked (cut_slices w v ix off) (cut_slices w' v ix off) r
  left_alone l = record {
    admission = admission;
    vertices = rw (lt-ltb r refused_triangle l);
    indexes = rw (lt-ltb r refused_triangle l);
    offsets = rw (lt-ltb r refused_triangle l);
  }

  -- from 7 on all are cleared
  pub all_cleared : refused_triangle ≤ r → (v' : List Float) (ix' off' : List ℕ) → v' ≡ padded (length v) zero [] → ix' ≡ padded (length ix) EMPTY []
      → off' ≡ padded (length off) EMPTY [] → CutAdmission m asked (cut_slices w v ix off) (cut_slices w' v' ix' off') r
  all_cleared l v' ix' off' qv qi qo = record {
    admission = admission;
    vertices = rw (le-ltb r refused_triangle l) (qv ∙ rw sub-zero);
    indexes = rw (le-ltb r refused_triangle l) (qi ∙ rw sub-zero);
    offsets = rw (le-ltb r refused_triangle l) (qo ∙ rw sub-zero);
  }
