-- A reason: what each fault is as one, and the numbers that tell each. Definitions only.
use Rattle.std.specs.Prelude.{ℕ, eqb, ⊤, Result, Ok, Err}
use Rattle.base.specs.common.Pick.{pick}
use Rattle.base.specs.numbers.Numbers.{EMPTY, refused_count, refused_room, refused_coordinate, refused_triangle, refused_pairing, refused_hull, refused_fan, refused_circumcenter, refused_extension}
use Rattle.mesh.specs.declared.MeshFault.{MeshFault}
use Rattle.mesh.specs.declared.MeshFault.TheVariants.{Counts, Room, Coordinate, Triangle, Pairing, HullPlace, HullEdge, BrokenFan}
use Rattle.definition.specs.declared.Fault.{Fault}
use Rattle.reasons.specs.declared.ReasonNumbers.{ReasonNumbers}
use Rattle.reasons.specs.declared.Reason.{Reason}
use Rattle.reasons.specs.declared.Reason.TheVariants.{NoFault, Number, AtSite, AtTriangle, AtHalfEdge, AtHullPlace, AtEdge, Unused, TriesEmpty, Dropped}

-- of the mesh: the rule's number and its lowest offender
abbrev pub of_mesh : Result ⊤ MeshFault → Reason
of_mesh (Ok _) = NoFault
of_mesh (Err Counts) = Number refused_count
of_mesh (Err Room) = Number refused_room
of_mesh (Err (Coordinate s)) = AtSite refused_coordinate s
of_mesh (Err (Triangle t)) = AtTriangle refused_triangle t
of_mesh (Err (Pairing e)) = AtHalfEdge refused_pairing e
of_mesh (Err (HullPlace i)) = AtHullPlace refused_hull i
of_mesh (Err (HullEdge e)) = AtHalfEdge refused_hull e
of_mesh (Err (BrokenFan s)) = AtSite refused_fan s

-- the place that a fault of the mesh names
abbrev pub fault_place : Result ⊤ MeshFault → ℕ
fault_place (Ok _) = 0
fault_place (Err Counts) = 0
fault_place (Err Room) = 0
fault_place (Err (Coordinate s)) = s
fault_place (Err (Triangle t)) = t
fault_place (Err (Pairing e)) = e
fault_place (Err (HullPlace i)) = i
fault_place (Err (HullEdge e)) = e
fault_place (Err (BrokenFan s)) = s

-- of the builder: 11 a triangle, 12 a hull place, the others a cell and an edge of its ring
unfoldable pub of_fault : Fault → Reason
of_fault f =
    pick (eqb f.number 0) (λ _. NoFault) (λ _.
    pick (eqb f.number refused_circumcenter) (λ _. AtTriangle f.number f.place) (λ _.
    pick (eqb f.number refused_extension) (λ _. AtHullPlace f.number f.place) (λ _. AtEdge f.number f.place f.from f.to)))

-- the refusal's number, the kind, the places
abbrev pub tells : ℕ → ℕ → ℕ → ℕ → ℕ → ReasonNumbers
tells n k place from to = record { number = n; kind = k; place = place; from = from; to = to }

abbrev pub told_by : Reason → ReasonNumbers
told_by NoFault = tells 0 0 EMPTY EMPTY EMPTY
told_by (Number n) = tells n 1 EMPTY EMPTY EMPTY
told_by (AtSite n s) = tells n 2 s EMPTY EMPTY
told_by (AtTriangle n t) = tells n 3 t EMPTY EMPTY
told_by (AtHalfEdge n e) = tells n 4 e EMPTY EMPTY
told_by (AtHullPlace n i) = tells n 5 i EMPTY EMPTY
told_by (AtEdge n s p q) = tells n 6 s p q
told_by (Unused s) = tells 0 7 s EMPTY EMPTY
told_by (TriesEmpty s) = tells 0 8 s EMPTY EMPTY
told_by (Dropped s t k) = tells 0 9 k EMPTY EMPTY
