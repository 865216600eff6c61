-- An edge that passes the box by changes where the walk stands, nothing else; one that is refused ends it.
use Rattle.std.proofs.Common.{sym, ◌∙◌, arith}
use Rattle.clipping.specs.RingWalk.{ring_of}
use Rattle.clipping.specs.laws.RingWalk.{round_start, round_next, round_pass, round_small, round_stop, round_end, ring_same, length_ring, get_d_ring}
use Rattle.clipping.proofs.ring.walk_ring.Goals as goal

pub loop-k-init : goal.loop-k-init
loop-k-init c =
    let a = c.args in
    round_start a.env a.ring a.len a.f a.tip a.vertices.now a.indexes.now c.requires.ring_room c.requires.stands c.requires.f_le_len.1

pub loop-k-preserved-then-passes : goal.loop-k-preserved-then-passes
loop-k-preserved-then-passes c =
    let a = c.args in
    let l = c.loop-k in
    let f = c.requires.f_le_len.0 in
    let ends = l.invariant.room.ends in
    let list = c.requires.ring_room.list in
    let e =
    c.turned.ensures.by_index (ring_of a.indexes.now a.ring a.len) (length_ring a.indexes.now a.ring a.len (omega arith))
    ∙ get_d_ring a.indexes.now a.ring a.len c.turned.result c.turned.ensures.upper_bound
    ∙ sym (ring_same a.env a.ring a.len a.f a.tip a.vertices.now a.indexes.now l.k l.at l.reused l.vertices l.indexes l.invariant c.turned.result c.turned.ensures.upper_bound) in
    round_pass a.env a.ring a.len a.f a.tip a.vertices.now a.indexes.now l.k l.at l.reused l.vertices l.indexes l.invariant
    f (omega arith) _ _ _ c.loop-k-test.true e (l.invariant.room.below c.turned.result c.turned.ensures.upper_bound) c.in_box-q_in.ensures
    c.crossing_of-c.ensures (c.passes.ensures c.if-passes.true) (omega arith)

pub returns-then-fault-ne0 : goal.returns-then-fault-ne0
returns-then-fault-ne0 c =
    let a = c.args in
    let l = c.loop-k in
    let f = c.requires.f_le_len.0 in
    let ends = l.invariant.room.ends in
    let list = c.requires.ring_room.list in
    let e =
    c.turned.ensures.by_index (ring_of a.indexes.now a.ring a.len) (length_ring a.indexes.now a.ring a.len (omega arith))
    ∙ get_d_ring a.indexes.now a.ring a.len c.turned.result c.turned.ensures.upper_bound
    ∙ sym (ring_same a.env a.ring a.len a.f a.tip a.vertices.now a.indexes.now l.k l.at l.reused l.vertices l.indexes l.invariant c.turned.result c.turned.ensures.upper_bound) in
    round_stop a.env a.ring a.len a.f a.tip a.vertices.now a.indexes.now l.k l.at l.reused l.vertices l.indexes l.invariant
    f (omega arith) _ _ _ _ c.loop-k-test.true e c.step_to-s.ensures.steps c.if-fault-ne0.true

pub together-reused-requires : goal.together-reused-requires
together-reused-requires c =
    let a = c.args in
    let l = c.loop-k in
    let f = c.requires.f_le_len.0 in
    let ends = l.invariant.room.ends in
    let list = c.requires.ring_room.list in
    let few = c.requires.ring_room.small in
    let e =
    c.turned.ensures.by_index (ring_of a.indexes.now a.ring a.len) (length_ring a.indexes.now a.ring a.len (omega arith))
    ∙ get_d_ring a.indexes.now a.ring a.len c.turned.result c.turned.ensures.upper_bound
    ∙ sym (ring_same a.env a.ring a.len a.f a.tip a.vertices.now a.indexes.now l.k l.at l.reused l.vertices l.indexes l.invariant c.turned.result c.turned.ensures.upper_bound) in
    round_small a.env a.ring a.len a.f a.tip a.vertices.now a.indexes.now l.k l.at l.reused l.vertices l.indexes l.invariant
    f (omega arith) _ _ _ _ c.loop-k-test.true e c.step_to-s.ensures.steps c.if-fault-ne0.false (omega arith)

pub loop-k-preserved : goal.loop-k-preserved
loop-k-preserved c =
    let a = c.args in
    let l = c.loop-k in
    let f = c.requires.f_le_len.0 in
    let ends = l.invariant.room.ends in
    let list = c.requires.ring_room.list in
    let e =
    c.turned.ensures.by_index (ring_of a.indexes.now a.ring a.len) (length_ring a.indexes.now a.ring a.len (omega arith))
    ∙ get_d_ring a.indexes.now a.ring a.len c.turned.result c.turned.ensures.upper_bound
    ∙ sym (ring_same a.env a.ring a.len a.f a.tip a.vertices.now a.indexes.now l.k l.at l.reused l.vertices l.indexes l.invariant c.turned.result c.turned.ensures.upper_bound) in
    round_next a.env a.ring a.len a.f a.tip a.vertices.now a.indexes.now l.k l.at l.reused l.vertices l.indexes l.invariant
    f (omega arith) _ _ _ _ c.loop-k-test.true e c.step_to-s.ensures.steps c.if-fault-ne0.false (c.step_to-s.ensures.stands c.if-fault-ne0.false)
    (omega arith) (omega arith) (omega arith) _ c.together-reused.ensures

pub returns : goal.returns
returns c =
    let a = c.args in
    let l = c.loop-k in
    round_end a.env a.ring a.len a.f a.tip a.vertices.now a.indexes.now l.k l.at l.reused l.vertices l.indexes l.invariant c.requires.f_le_len.0 (omega arith) c.loop-k-test.false
