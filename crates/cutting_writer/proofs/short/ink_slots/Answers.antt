-- `cutting_writer::short::ink_slots`: each slot carries `Inking` one further.
use Rattle.std.proofs.Common.{◌+◌, ap, arith}
use Rattle.std.proofs.lemmas.List.{get_or_default}
use Rattle.cutting.specs.pen.Pen.{page}
use Rattle.cutting_writer.specs.stream.Stages.{at_of}
use Rattle.cutting_writer.specs.slots.Slots.{no_spot}
use Rattle.cutting_writer.specs.short.laws.Inking.{inking_asks, inking_step}
use Rattle.cutting_writer.proofs.short.ink_slots.Goals as goal

pub ink_spot-pen-requires : goal.ink_spot-pen-requires
ink_spot-pen-requires c =
    let a = c.args in
    inking_asks a.b a.centers a.from a.count a.slots.now (page a.start a.vertices.now a.indexes.now) c.loop-i.i _ c.loop-i.invariant c.loop-i-test.true _
    (ap at_of (get_or_default a.slots.now (a.from + c.loop-i.i) _ no_spot (omega (arith, c.loop-i-test.true, c.requires.0, c.requires.1)))) c.requires.2

pub loop-i-preserved : goal.loop-i-preserved
loop-i-preserved c =
    let a = c.args in
    inking_step a.b a.centers a.from a.count a.slots.now (page a.start a.vertices.now a.indexes.now) c.loop-i.i _ c.loop-i.invariant c.loop-i-test.true _
    (ap at_of (get_or_default a.slots.now (a.from + c.loop-i.i) _ no_spot (omega (arith, c.loop-i-test.true, c.requires.0, c.requires.1)))) _ c.ink_spot-pen.ensures
