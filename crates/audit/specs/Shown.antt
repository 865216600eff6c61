-- The steps of `audit`: a build's answer as text, by its number and the used parts of its lent slices, and the sizes within which everything has room.
use Rattle.std.specs.Prelude.{ℕ, ◌+◌, ◌*◌, ◌/◌, ◌≤◌, true, List, [], length, take, slice_index, slice_index_or, Float}
use Rattle.plane.specs.boxes.Finite.{BoundedBox}
use Rattle.plane.specs.declared.boxes.BoundingBox.{BoundingBox}
use Rattle.arguments.specs.entries.Named.{EntriesNamed}
use Rattle.areas.specs.Promise.{KeepsRule}
use Rattle.auditing.specs.rules.Kept.{AuditKept}
use Rattle.form.specs.Limits.{most_links}
use Rattle.printing.specs.Rooms.{vertex_room}
use Rattle.audit.specs.turns.Turned.{TrianglesKept}
use Rattle.audit.specs.Printed.{told}

-- a mesh and pieces that can be audited, where rule 24 is kept
pub record Auditable (b : BoundingBox) (sites : List Float) (tri : List ℕ) (v : List Float) (off ix : List ℕ) : Type 0 where
  pub box : BoundedBox 101 b
  pub few : length tri ≤ most_links
  pub turns : TrianglesKept sites tri
  pub named : EntriesNamed ix (length v / 2)
  pub kept : KeepsRule v ix → AuditKept true sites v off ix [] [] 20

-- the lent counts begin with the number of vertices
abbrev pub cut_told : BoundingBox → List Float → List ℕ → List Float → List ℕ → List ℕ → List ℕ → List ℕ
cut_told b sites tri v off ix c = told b sites tri (take (2 * slice_index c 0) v) (take (length sites / 2 + 1) off) (take (slice_index off (length sites / 2)) ix)

pub record UsedParts (b : BoundingBox) (sites : List Float) (tri : List ℕ) (v : List Float) (off ix c : List ℕ) : Type 0 where
  pub few : 2 * slice_index c 0 ≤ vertex_room
  pub vertices : 2 * slice_index c 0 ≤ length v
  pub offsets : length sites / 2 + 1 ≤ length off
  pub entries : slice_index_or off (length sites / 2) 0 ≤ length ix
  pub ready : Auditable b sites tri (take (2 * slice_index c 0) v) (take (length sites / 2 + 1) off) (take (slice_index off (length sites / 2)) ix)
