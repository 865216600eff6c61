-- The rules on a lent mesh with what a check answers: nothing, or the fault, with the lowest offender where there are several. By number they are those of Rules.
use Rattle.std.specs.Prelude.{List, [], ◌∷◌, ◌++◌, ℕ, ◌/◌, Float, length, ⊤, Result, Ok, Err}
use Rattle.base.specs.common.Refusals.{Rule, once, each}
use Rattle.base.specs.numbers.Numbers.{refused_count, refused_room, refused_coordinate, refused_triangle, refused_pairing, refused_hull, refused_fan}
use Rattle.base.specs.declared.refusal.Refusal.{Refusal}
use Rattle.base.specs.declared.refusal.Refusal.TheVariants as refusal
use Rattle.plane.specs.points.Sites.{KeptAt}
use Rattle.mesh.specs.declared.MeshFault.{MeshFault}
use Rattle.mesh.specs.declared.MeshFault.TheVariants.{Counts, Room, Coordinate, Triangle, Pairing, HullPlace, HullEdge, BrokenFan}
use Rattle.mesh.specs.Mesh.{SoundAt, PairedAt, leftmost_of, FanAt}
use Rattle.mesh.specs.Hull.{PlaceAt, BorderAt}
use Rattle.mesh.specs.Accepted.{Mesh, Counted, site_count}

-- the refusal by the rule that a fault breaks
abbrev pub refusal_of : MeshFault → Refusal
refusal_of Counts = refusal.Count
refusal_of Room = refusal.Room
refusal_of (Coordinate s) = refusal.Coordinate
refusal_of (Triangle t) = refusal.Triangle
refusal_of (Pairing e) = refusal.Pairing
refusal_of (HullPlace i) = refusal.Hull
refusal_of (HullEdge e) = refusal.Hull
refusal_of (BrokenFan s) = refusal.Fan

-- the number of what a check answers: 0 where it finds nothing
abbrev pub number_of : Result ⊤ MeshFault → ℕ
number_of (Ok _) = 0
number_of (Err Counts) = refused_count
number_of (Err Room) = refused_room
number_of (Err (Coordinate s)) = refused_coordinate
number_of (Err (Triangle t)) = refused_triangle
number_of (Err (Pairing e)) = refused_pairing
number_of (Err (HullPlace i)) = refused_hull
number_of (Err (HullEdge e)) = refused_hull
number_of (Err (BrokenFan s)) = refused_fan

-- ---- the rules, in the order of docs/use/RULES.md

-- 7 and 8
abbrev pub shape_rules : List ℕ → List ℕ → ℕ → List (Rule (Result ⊤ MeshFault))
shape_rules tri he sites = each (λ t. Err (Triangle t)) (length tri / 3) (SoundAt tri sites) ∷ each (λ e. Err (Pairing e)) (length tri) (PairedAt tri he) ∷ []

-- 9
abbrev pub hull_rules : List ℕ → List ℕ → List ℕ → ℕ → List (Rule (Result ⊤ MeshFault))
hull_rules tri he hull sites = each (λ i. Err (HullPlace i)) (length hull) (PlaceAt tri he hull sites) ∷ each (λ e. Err (HullEdge e)) (length he) (BorderAt tri he hull) ∷ []

-- 10
abbrev pub fan_rules : List ℕ → List ℕ → ℕ → List (Rule (Result ⊤ MeshFault))
fan_rules tri he sites = each (λ s. Err (BrokenFan s)) sites (FanAt tri he (leftmost_of tri he sites)) ∷ []

-- 7 to 10
abbrev pub topology_rules : List ℕ → List ℕ → List ℕ → ℕ → List (Rule (Result ⊤ MeshFault))
topology_rules tri he hull sites = shape_rules tri he sites ++ hull_rules tri he hull sites ++ fan_rules tri he sites

-- 1 and 2, by the lengths of the lists
abbrev pub start_rules : ℕ → ℕ → ℕ → ℕ → Type 0 → List (Rule (Result ⊤ MeshFault))
start_rules coordinates entries halfedges hull room = once (Err Counts) (Counted coordinates entries halfedges hull) ∷ once (Err Room) room ∷ []

-- 6
abbrev pub coordinate_rules : List Float → List (Rule (Result ⊤ MeshFault))
coordinate_rules sites = each (λ s. Err (Coordinate s)) (site_count sites) (KeptAt sites) ∷ []

-- the check of a lent mesh: 1, 2, 6, 7 to 10
abbrev pub mesh_rules : Mesh → Type 0 → List (Rule (Result ⊤ MeshFault))
mesh_rules m room =
    start_rules (length m.sites) (length m.triangles) (length m.halfedges) (length m.hull) room
    ++ coordinate_rules m.sites ++ topology_rules m.triangles m.halfedges m.hull (site_count m.sites)
