-- The invariant is that the triangles so far are written; each turn writes one more, of a part of each list.
use Prim.Native.Nat.{◌/◌}
use lib.ListN.{length}
use Rattle.octets.specs.laws.Wrote.{Lined}
use Rattle.mend.specs.writer.Written.{triangle_records}
use Rattle.mend.proofs.writer.put_triangles.Given as goal

abbrev pub invariant-loop-i : goal.invariant-loop-i
invariant-loop-i l = Lined (λ k. triangle_records l.triangles l.halfedges 0 k) (length l.triangles / 3) l.fn.out l.out l.at l.end l.i
