-- A vertex inside ends the search, one that is not carries it one further.
use Rattle.std.proofs.Common.{sym, ◌∙◌, ◌≡◌, arith}
use Rattle.plane.specs.points.Flat.{points}
use Rattle.clipping.specs.RingWalk.{ring_of}
use Rattle.clipping.specs.laws.RingWalk.{first_hit, first_miss, first_none, length_ring, ring_answer}
use Rattle.clipping.proofs.ring.first_inside.Goals as goal

pub returns-then-in_box-clause-first : goal.returns-then-in_box-clause-first
returns-then-in_box-clause-first c =
    let a = c.args in
    let vs = points a.count a.vertices.now in
    let n = length_ring a.indexes.now a.ring a.len c.requires.1 in
    let e = ring_answer a.env.bounds a.env.centers vs a.indexes.now a.ring a.len c.loop-k.k _ _ c.loop-k-test.true c.in_box.ensures c.if-in_box.true in
    sym (c.loop-k.invariant ∙ first_hit a.env.bounds a.env.centers vs (ring_of a.indexes.now a.ring a.len) c.loop-k.k (rw n c.loop-k-test.true) e)

pub loop-k-preserved : goal.loop-k-preserved
loop-k-preserved c =
    let a = c.args in
    let vs = points a.count a.vertices.now in
    let n = length_ring a.indexes.now a.ring a.len c.requires.1 in
    let e = ring_answer a.env.bounds a.env.centers vs a.indexes.now a.ring a.len c.loop-k.k _ _ c.loop-k-test.true c.in_box.ensures c.if-in_box.false in
    c.loop-k.invariant ∙ first_miss a.env.bounds a.env.centers vs (ring_of a.indexes.now a.ring a.len) c.loop-k.k (rw n c.loop-k-test.true) e

pub returns-clause-first : goal.returns-clause-first
returns-clause-first c =
    let a = c.args in
    let n = length_ring a.indexes.now a.ring a.len c.requires.1 in
    let k : a.len ≡ c.loop-k.k = omega arith in
    k
    ∙ sym (c.loop-k.invariant
    ∙ first_none a.env.bounds a.env.centers (points a.count a.vertices.now) (ring_of a.indexes.now a.ring a.len) c.loop-k.k (rw n c.loop-k-test.false))
