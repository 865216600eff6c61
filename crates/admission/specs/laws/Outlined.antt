-- What it tells that the rules up to 9 hold: of the mesh, of the room and of each slice.
use Rattle.std.specs.Prelude.{◌≡◌, Bool, true, ◌++◌, ℕ, ◌/◌, ◌≤◌, ltb, length, take}
use Rattle.std.proofs.Common.{ap, ◌∙◌, arith, rules, lt-ltb}
use Rattle.base.specs.common.Refusals.{reads, Keep}
use Rattle.base.specs.common.laws.Refusals.{finds_keep, finds_none}
use Rattle.base.specs.numbers.Numbers.{EMPTY, refused_triangle}
use Rattle.mesh.specs.Faults.{number_of, fan_rules}
use Rattle.mesh.specs.Accepted.{Mesh, Outlined, table_of, site_count}
use Rattle.mesh.specs.laws.Border.{places_hull}
use Rattle.mesh.specs.laws.Facts.{few_entries, topology}
use Rattle.mesh_check.specs.whole.laws.AtExit.{exit_made}
use Rattle.cell_memory.specs.outputs.Outputs.{Rooms}
use Rattle.admission.specs.Admits.{early_rules, late_outline, Outlines}
use Rattle.admission.specs.Slices.{Slices, room_of}
use Rattle.admission.specs.Admission.{table_in, TryableFans, OutlineAdmission, BuildAdmission}
use Rattle.admission.specs.laws.Admits.{asked_answers, admits_keep, keep_parts}
use Rattle.admission.specs.laws.BuildRoom.{Granted, granted}
use Rattle.admission.specs.laws.LeftmostTable.{table_long, table_part}

module _ {m : Mesh} {roomy : Bool} {asked r : ℕ} (x : Outlines m roomy asked r) (z : r ≡ 0) where
  pub outline_keep : Keep (early_rules m.sites (length m.triangles) (length m.halfedges) (length m.hull) roomy asked ++ late_outline m)
  outline_keep = finds_keep (λ k. k ≡ 0) (search rules) z x.found

  outlined : Outlined m
  outlined =
      let k = outline_keep in
      let late = k.1.1.1.1 in
      record {
        counts = k.0;
        coordinates = k.1.1.1.0;
        topology = record {
          threes = k.0.threes;
          same = k.0.same;
          small = few_entries k.0;
          sound = late.0;
          pairs = late.1.0;
          border = places_hull m.triangles m.halfedges m.hull (site_count m.sites) late.1.1.0 late.1.1.1.0;
          fan = tt;
        };
      }

module _ {m : Mesh} {asked : ℕ} {old new : Slices} {r : ℕ} (a : OutlineAdmission m asked old new r) (z : r ≡ 0) where
  pub mesh_outlined : Outlined m
  mesh_outlined = outlined a.number z

  pub asked_fit : asked ≡ 0
  asked_fit = (outline_keep a.number z).1.1.0

  granted_of : Granted (site_count m.sites) (length m.triangles / 3) (length m.hull) (length old.work)
      (length old.vertices) (length old.indexes) (length old.offsets) (length old.counts)
  granted_of = granted _ _ _ _ _ _ _ _ (outline_keep a.number z).1.0

  small : ltb r refused_triangle ≡ true
  small = lt-ltb r refused_triangle (omega arith)

  pub same_vertices : new.vertices ≡ old.vertices
  same_vertices = a.vertices ∙ rw small

  pub same_indexes : new.indexes ≡ old.indexes
  same_indexes = a.indexes ∙ rw small

  pub same_offsets : new.offsets ≡ old.offsets
  same_offsets = a.offsets ∙ rw small

  pub same_counts : new.counts ≡ old.counts
  same_counts = a.counts ∙ rw small

  pub table_of_lem : new.work ≡ table_in m old
  table_of_lem = a.work ∙ exit_made EMPTY (table_in m old) old.work r z

  pub long_of : length new.work ≡ length old.work
  long_of = ap length table_of_lem ∙ table_long m.triangles m.halfedges m.hull (site_count m.sites) (topology mesh_outlined) (length old.work) granted_of.table

  -- what the build is lent
  pub rooms_of : Rooms (length m.triangles / 3) (length m.hull) (site_count m.sites) (length new.vertices) (length new.indexes) (length new.offsets)
  rooms_of = rw (same_vertices, same_indexes, same_offsets) granted_of.rooms

  pub nine_of : 9 ≤ length new.counts
  nine_of = rw same_counts granted_of.nine

  pub table_fits : site_count m.sites ≤ length new.work
  table_fits = rw long_of granted_of.table

  pub table_is : take (site_count m.sites) new.work ≡ table_of m
  table_is = ap (take (site_count m.sites)) table_of_lem ∙ table_part m.triangles m.halfedges m.hull (site_count m.sites) (topology mesh_outlined) (length old.work) granted_of.table

  -- and what rule 10 is tried on
  pub fans_tryable : TryableFans m.triangles m.halfedges (site_count m.sites) new.work
  fans_tryable = record { hull = m.hull; outline = topology mesh_outlined; room = table_fits; table = rw long_of table_of_lem }

-- the rules up to 10 say so too
pub build_outlined : {m : Mesh} {asked : ℕ} {old new : Slices} {r : ℕ} → BuildAdmission m asked old new r → r ≡ 0 → OutlineAdmission m asked old new r
build_outlined {m} {asked} {old} {r = r} a z = record {
  number = record {
    found = rw z (finds_none (keep_parts (early_rules m.sites (length m.triangles) (length m.halfedges) (length m.hull) (room_of m old) asked ++ late_outline m)
        (reads number_of (fan_rules m.triangles m.halfedges (site_count m.sites))) (admits_keep (asked_answers asked) a.number z)).0);
  };
  work = a.work;
  vertices = a.vertices;
  indexes = a.indexes;
  offsets = a.offsets;
  counts = a.counts;
}
