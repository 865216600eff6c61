-- What the checker answers: what the rules find, and what it leaves in the work slice.
use Rattle.std.specs.Prelude.{◌≡◌, List, ◌++◌, ℕ, ◌≤◌, length, ⊤, Result, Ok}
use Rattle.base.specs.common.Refusals.{Finds}
use Rattle.base.specs.numbers.Numbers.{EMPTY}
use Rattle.mesh.specs.declared.MeshFault.{MeshFault}
use Rattle.mesh.specs.Mesh.{leftmost_in}
use Rattle.mesh.specs.Faults.{number_of, shape_rules, hull_rules, fan_rules, topology_rules, mesh_rules}
use Rattle.mesh.specs.Accepted.{Mesh, site_count}
use Rattle.mesh_check.specs.whole.AtExit.{at_exit}

-- a work slice after a mesh query with the number r: the leftmost table and then EMPTY, or what it held, or EMPTY throughout
abbrev pub work_after : Mesh → List ℕ → ℕ → List ℕ
work_after m old r = at_exit EMPTY (leftmost_in m.triangles m.halfedges (site_count m.sites) (length old)) old r

-- rules 7 and 8
abbrev pub ShapeAnswer : List ℕ → List ℕ → ℕ → Result ⊤ MeshFault → Type 0
ShapeAnswer tri he sites = Finds (shape_rules tri he sites) (Ok tt)

-- rules 9 and 10
pub record BorderAnswer (tri he hull : List ℕ) (sites : ℕ) (old new : List ℕ) (f : Result ⊤ MeshFault) : Type 0 where
  pub found : Finds (hull_rules tri he hull sites ++ fan_rules tri he sites) (Ok tt) f
  pub table : number_of f ≡ 0 → new ≡ leftmost_in tri he sites (length old)

-- rules 7 to 10
pub record TopologyAnswer (tri he hull : List ℕ) (sites : ℕ) (old new : List ℕ) (f : Result ⊤ MeshFault) : Type 0 where
  pub verdict : Finds (topology_rules tri he hull sites) (Ok tt) f
  pub work : new ≡ at_exit EMPTY (leftmost_in tri he sites (length old)) old (number_of f)

-- rules 7 to 9 alone
pub record OutlineAnswer (tri he hull : List ℕ) (sites : ℕ) (old new : List ℕ) (f : Result ⊤ MeshFault) : Type 0 where
  pub verdict : Finds (shape_rules tri he sites ++ hull_rules tri he hull sites) (Ok tt) f
  pub work : new ≡ at_exit EMPTY (leftmost_in tri he sites (length old)) old (number_of f)

-- rules 1, 2 and 6 to 10, of a work slice of w entries
abbrev pub Finding : Mesh → ℕ → Result ⊤ MeshFault → Type 0
Finding m w = Finds (mesh_rules m (site_count m.sites ≤ w)) (Ok tt)

pub record MeshAnswer (m : Mesh) (old new : List ℕ) (f : Result ⊤ MeshFault) : Type 0 where
  pub finding : Finding m (length old) f
  pub work : new ≡ work_after m old (number_of f)
