-- What is lent once the rules up to 10, or up to 9, are tried: the number, and each slice then.
use Rattle.std.specs.Prelude.{◌≡◌, Bool, true, List, ℕ, ◌/◌, ◌≤◌, leb, Float, length}
use Rattle.base.specs.common.Refusals.{reads, Finds}
use Rattle.base.specs.common.Binary64.{zero}
use Rattle.base.specs.numbers.Numbers.{EMPTY}
use Rattle.mesh.specs.Mesh.{leftmost_in}
use Rattle.mesh.specs.Faults.{number_of, fan_rules}
use Rattle.mesh.specs.Accepted.{Mesh, Counted, site_count, OutlinedTopology}
use Rattle.mesh_check.specs.whole.Answers.{work_after}
use Rattle.mesh_check.specs.whole.AtExit.{at_exit, when_refused}
use Rattle.admission.specs.Admits.{asked_rules, Outlines, Admits}
use Rattle.admission.specs.Slices.{Slices, room_for, room_of}

-- up to rule 10, with a work slice
pub record Admission (m : Mesh) (roomy : Bool) (asked : ℕ) (old new : List ℕ) (r : ℕ) : Type 0 where
  pub number : Admits m roomy (asked_rules asked) r
  pub work : new ≡ work_after m old r

-- rule 2 of a query: a work entry for each site
abbrev pub roomy_of : List Float → List ℕ → Bool
roomy_of sites work = leb (site_count sites) (length work)

-- a query with an output slice, o and then o'
pub record ListAdmission (m : Mesh) (asked : ℕ) (w w' o o' : List ℕ) (r : ℕ) : Type 0 where
  pub admission : Admission m (roomy_of m.sites w) asked w w' r
  pub out : o' ≡ when_refused EMPTY o r

-- the answer to rule 2 of a build where rule 1 holds; never yes without a work entry for each site
pub record RoomAnswer (coordinates entries halfedges hull work numbers indexes offsets counts : ℕ) (r : Bool) : Type 0 where
  pub right : Counted coordinates entries halfedges hull → r ≡ room_for (coordinates / 2) (entries / 3) hull work numbers indexes offsets counts
  pub table : r ≡ true → coordinates / 2 ≤ work

-- the leftmost table in the work slice, then EMPTY
abbrev pub table_in : Mesh → Slices → List ℕ
table_in m old = leftmost_in m.triangles m.halfedges (site_count m.sites) (length old.work)

-- the slices of a build once rules are tried that give the number r; after 0 the work slice holds `table`
pub record SlicesAdmission (Number : ℕ → Type 0) (table : List ℕ) (old new : Slices) (r : ℕ) : Type 0 where
  pub number : Number r
  pub work : new.work ≡ at_exit EMPTY table old.work r
  pub vertices : new.vertices ≡ when_refused zero old.vertices r
  pub indexes : new.indexes ≡ when_refused EMPTY old.indexes r
  pub offsets : new.offsets ≡ when_refused EMPTY old.offsets r
  pub counts : new.counts ≡ when_refused EMPTY old.counts r

-- up to rule 10
abbrev pub BuildAdmission : Mesh → ℕ → Slices → Slices → ℕ → Type 0
BuildAdmission m asked old = SlicesAdmission (Admits m (room_of m old) (asked_rules asked)) (table_in m old) old

-- up to rule 9
abbrev pub OutlineAdmission : Mesh → ℕ → Slices → Slices → ℕ → Type 0
OutlineAdmission m asked old = SlicesAdmission (Outlines m (room_of m old) asked) (table_in m old) old

-- what rule 10 is tried on: a mesh that rules 7 to 9 accept, its leftmost table in the work slice
pub record TryableFans (tri he : List ℕ) (sites : ℕ) (work : List ℕ) : Type 0 where
  pub hull : List ℕ
  pub outline : OutlinedTopology tri he hull sites
  pub room : sites ≤ length work
  pub table : work ≡ leftmost_in tri he sites (length work)

-- rule 10 alone
abbrev pub FanAdmission : List ℕ → List ℕ → ℕ → Slices → Slices → ℕ → Type 0
FanAdmission tri he sites old = SlicesAdmission (Finds (reads number_of (fan_rules tri he sites)) 0) old.work old
