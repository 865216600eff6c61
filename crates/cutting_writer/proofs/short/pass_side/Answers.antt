-- `cutting_writer::short::pass_side`: each edge carries `Passing` one further.
use Rattle.std.proofs.Common.{◌+◌, ◌∙◌, ap, arith}
use Rattle.std.proofs.lemmas.List.{get_or_default}
use Rattle.cutting_writer.specs.slots.Slots.{no_spot}
use Rattle.cutting_writer.specs.stream.Stages.{at_of, side_at}
use Rattle.cutting_writer.specs.short.laws.Passing.{half_low, next_low, passing_step, passing_end}
use Rattle.cutting_writer.proofs.short.pass_side.Goals as goal

pub corner_at-q-requires : goal.corner_at-q-requires
corner_at-q-requires c =
    let a = c.args in
    let l = c.loop-i in
    let p = c.requires in (
      next_low (side_at a.b a.sites.now a.s) a.from a.count a.slots.now p.0 p.1 l.i l.k _ l.invariant c.loop-i-test.true _ c.next_slot.ensures,
      l.invariant.slots ∙ p.2,
    )

pub loop-i-preserved : goal.loop-i-preserved
loop-i-preserved c =
    let a = c.args in
    let l = c.loop-i in
    let p = c.requires in
    passing_step (side_at a.b a.sites.now a.s) a.from a.count a.slots.now p.0 p.1 l.i l.k _ l.invariant c.loop-i-test.true
    (ap at_of (get_or_default l.slots (a.from + l.i) _ no_spot (omega (arith, half_low a.from p.0, p.1, c.loop-i-test.true, l.invariant.slots, p.2))))
    c.next_slot.ensures c.corner_at-q.ensures (omega (arith, c.if-k-gt-HALF.false)) c.pass_edge-k.ensures c.pass_edge-k.auto.slots

pub returns : goal.returns
returns c =
    let a = c.args in
    passing_end (side_at a.b a.sites.now a.s) a.from a.count a.slots.now c.loop-i.i c.loop-i.k _ c.loop-i.invariant (omega (arith, c.loop-i-test.false))
