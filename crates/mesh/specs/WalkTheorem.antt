-- Theorem: on every accepted mesh the whole walk of a site lists each half-edge that ends there exactly once, lists no other, and stops by
-- its own rule.
use Rattle.std.specs.Prelude.{◌≡◌, List, ℕ, ◌≤◌, ◌<◌, length, get_or}
use Rattle.base.specs.common.Count.{occ}
use Rattle.mesh.specs.Mesh.{end_of, walk_of, whole_of}
use Rattle.mesh.specs.Accepted.{Mesh, table_of, Accepted, site_count}
use Rattle.mesh.specs.laws.Facts.{topology, walk_each, walk_only, walk_stops}

-- t is what the leftmost table holds of site s
pub record Rounds (tri he : List ℕ) (s t : ℕ) : Type 0 where
  pub each : (e : ℕ) → e < length he → end_of tri e ≡ s → occ e (whole_of he t) ≡ 1
  pub only : (e : ℕ) → 0 < occ e (whole_of he t) → (e < length he) × (end_of tri e ≡ s)
  pub stops : (fuel : ℕ) → length he ≤ fuel → walk_of he t fuel t ≡ whole_of he t

pub accepted_rounds : {m : Mesh} → Accepted m → (s : ℕ) → s < site_count m.sites
    → Rounds m.triangles m.halfedges s (get_or (table_of m) s 0)
accepted_rounds a s l = record { each = walk_each (topology a) s l; only = walk_only (topology a) s l; stops = walk_stops (topology a) s l }
