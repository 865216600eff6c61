-- The first vertex inside of the whole ring is the first of the rest, as none before is inside.
use Rattle.std.specs.Prelude.{◌≡◌, ◌+◌, drop}
use Rattle.plane.specs.points.Flat.{points}
use Rattle.definition.specs.Cell.{first_inside}
use Rattle.clipping.specs.RingWalk.{ring_of}
use Rattle.clipping.proofs.ring.first_inside.Given as goal

abbrev pub invariant-loop-k : goal.invariant-loop-k
invariant-loop-k l =
    first_inside l.env.bounds l.env.centers (points l.count l.vertices) (ring_of l.indexes l.ring l.len)
    ≡ l.k + first_inside l.env.bounds l.env.centers (points l.count l.vertices) (drop l.k (ring_of l.indexes l.ring l.len))
