-- The rules up to 9 with a build's own rule 2, and the lent slices after them.
use Rattle.std.specs.Prelude.{◌≡◌, Bool, List, [], ℕ, ◌≤◌, ◌<◌, Float, length, replicate}
use Rattle.std.proofs.Common.{sym, ◌∙◌, lt-ltb, le-ltb}
use Rattle.std.proofs.Math.Nat.{sub-zero}
use Rattle.base.specs.common.Binary64.{zero}
use Rattle.base.specs.numbers.Numbers.{EMPTY, refused_triangle}
use Rattle.mesh.specs.Accepted.{Mesh}
use Rattle.mesh_check.specs.whole.Answers.{work_after}
use Rattle.cell_memory.specs.layout.Cleared.{padded}
use Rattle.admission.specs.Admits.{Outlines}
use Rattle.admission.specs.Slices.{slices, room_of}
use Rattle.admission.specs.Admission.{RoomAnswer, OutlineAdmission}
use Rattle.admission.specs.laws.Admits.{outlines_room}

module _ (m : Mesh) (asked : ℕ) (w w' : List ℕ) (v : List Float) (ix off c : List ℕ) (roomy : Bool) (r : ℕ)
    (room : RoomAnswer (length m.sites) (length m.triangles) (length m.halfedges) (length m.hull) (length w) (length v) (length ix) (length off) (length c) roomy)
    (a : Outlines m roomy asked r) (p : w' ≡ work_after m w r) where
  -- where rule 1 is broken the test of rule 2 does not count
  number : Outlines m (room_of m (slices w v ix off c)) asked r
  number = outlines_room m (λ k. (λ e. sym (room.right k) ∙ e, λ e. room.right k ∙ e)) a

  -- up to 6 and after 0 no output has changed
  pub left_alone : r < refused_triangle → OutlineAdmission m asked (slices w v ix off c) (slices w' v ix off c) r
  left_alone l = record {
    number = number;
    work = p;
    vertices = rw (lt-ltb r refused_triangle l);
    indexes = rw (lt-ltb r refused_triangle l);
    offsets = rw (lt-ltb r refused_triangle l);
    counts = rw (lt-ltb r refused_triangle l);
  }

  -- from 7 on all are cleared
  pub all_cleared : refused_triangle ≤ r → (v' : List Float) (ix' off' c' : List ℕ) → v' ≡ padded (length v) zero [] → ix' ≡ padded (length ix) EMPTY []
      → off' ≡ padded (length off) EMPTY [] → c' ≡ replicate (length c) EMPTY → OutlineAdmission m asked (slices w v ix off c) (slices w' v' ix' off' c') r
  all_cleared l v' ix' off' c' qv qi qo qc = record {
    number = number;
    work = p;
    vertices = rw (le-ltb r refused_triangle l) (qv ∙ rw sub-zero);
    indexes = rw (le-ltb r refused_triangle l) (qi ∙ rw sub-zero);
    offsets = rw (le-ltb r refused_triangle l) (qo ∙ rw sub-zero);
    counts = rw (le-ltb r refused_triangle l) qc;
  }
