-- What it tells that no rule is broken: rules 7 to 10 are `Topology`, and all of them are `Accepted`. And a fault has a number, from 7 on where it is of rules 7 to 10.
use Rattle.std.specs.Prelude.{◌≡◌, refl, List, ◌≢◌, ℕ, ◌%◌, ◌≤◌, ◌<◌, length, ⊤, Result, Ok, Err}
use Rattle.std.proofs.Common.{arith}
use Rattle.base.specs.common.Refusals.{Keep, Finds}
use Rattle.base.specs.common.laws.Refusals.{finds_answers}
use Rattle.base.specs.numbers.Numbers.{EMPTY, refused_triangle}
use Rattle.mesh.specs.declared.MeshFault.{MeshFault}
use Rattle.mesh.specs.declared.MeshFault.TheVariants.{Counts, Room, Coordinate, Triangle, Pairing, HullPlace, HullEdge, BrokenFan}
use Rattle.mesh.specs.Mesh.{next_of, end_of}
use Rattle.mesh.specs.Accepted.{Mesh, Accepted, site_count, Topology}
use Rattle.mesh.specs.Faults.{number_of, topology_rules, mesh_rules}
use Rattle.mesh.specs.laws.Next.{next_lt}
use Rattle.mesh.specs.laws.Facts.{few_entries, sound_site}
use Rattle.mesh.specs.laws.Border.{places_hull, hull_places, hull_border}

-- a fault has a number
pub fault_numbered : (f : MeshFault) → number_of (Err f) ≢ 0
fault_numbered Counts q = omega arith
fault_numbered Room q = omega arith
fault_numbered (Coordinate s) q = omega arith
fault_numbered (Triangle t) q = omega arith
fault_numbered (Pairing e) q = omega arith
fault_numbered (HullPlace i) q = omega arith
fault_numbered (HullEdge e) q = omega arith
fault_numbered (BrokenFan s) q = omega arith

module _ (tri he hull : List ℕ) (sites : ℕ) where
  pub topology_keep : Topology tri he hull sites → Keep (topology_rules tri he hull sites)
  topology_keep t =
      (t.sound, (t.pairs, (hull_places tri he hull sites t.border, (hull_border tri he hull sites t.border, (λ s _ e l q. rw (← q) (t.fan e l), tt)))))

  pub keep_topology : length tri % 3 ≡ 0 → length he ≡ length tri → length tri < EMPTY → Keep (topology_rules tri he hull sites) → Topology tri he hull sites
  keep_topology threes same small k = record {
    threes = threes;
    same = same;
    small = small;
    sound = k.0;
    pairs = k.1.0;
    border = places_hull tri he hull sites k.1.1.0 k.1.1.1.0;
    fan = λ e l. k.1.1.1.1.0 (end_of tri e) (sound_site tri sites threes k.0 (next_of e) (next_lt threes (rw (← same) l))) e l refl;
  }

  -- a refusal has a number from 7 on
  pub topology_late : {f : Result ⊤ MeshFault} → Finds (topology_rules tri he hull sites) (Ok tt) f → number_of f ≢ 0 → refused_triangle ≤ number_of f
  topology_late =
      finds_answers (λ f. number_of f ≢ 0 → refused_triangle ≤ number_of f) (λ n. absurd (n refl))
      (λ k n. omega arith, (λ k n. omega arith, (λ k n. omega arith, (λ k n. omega arith, (λ k n. omega arith, tt)))))

module _ (m : Mesh) (room : Type 0) where
  pub accepted_keep : Accepted m → room → Keep (mesh_rules m room)
  accepted_keep a l = (a.counts, (l, (a.coordinates, topology_keep m.triangles m.halfedges m.hull (site_count m.sites) a.topology)))

  pub keep_accepted : Keep (mesh_rules m room) → Accepted m
  keep_accepted k = record {
    counts = k.0;
    coordinates = k.1.1.0;
    topology = keep_topology m.triangles m.halfedges m.hull (site_count m.sites) k.0.threes k.0.same (few_entries k.0) k.1.1.1;
  }
