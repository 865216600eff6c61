-- The sum so far is `total_to`.
use Rattle.std.proofs.Common.{◌≡◌, ◌≤◌, length}
use Rattle.mesh.specs.Mesh.{total_to}
use Rattle.mesh_check.proofs.fan.walks_cover.Given as goal

abbrev pub invariant-loop-start : goal.invariant-loop-start
invariant-loop-start l = (l.total ≡ total_to l.fn.halfedges l.fn.table l.start-index) × (l.total ≤ length l.fn.halfedges)
