-- `cutting_writer::sites::cut_all`: each site carries `Sheeting` one further.
use Rattle.std.proofs.Common.{◌≡◌, ◌∙◌, length, arith, length-set}
use Rattle.cutting_writer.specs.sites.laws.Sheets.{sheeting_at, sheeting_asks, sheeting_step, sheeting_end}
use Rattle.cutting_writer.proofs.sites.cut_all.Goals as goal

pub overflow_cast-offsets : goal.overflow_cast-offsets
overflow_cast-offsets c = omega (arith, sheeting_at _ _ _ _ _ _ c.loop-s.invariant.0)

pub cut_site-pen-requires : goal.cut_site-pen-requires
cut_site-pen-requires c = (c.requires.thirds, c.requires.small, sheeting_asks _ _ _ _ _ _ c.loop-s.invariant.0 (omega (arith, c.loop-s-test.true)))

pub loop-s-preserved : goal.loop-s-preserved
loop-s-preserved c = (
  sheeting_step _ _ _ _ _ _ c.loop-s.invariant.0 (omega (arith, c.loop-s-test.true)) c.cut_site-pen.ensures,
  c.cut_site-pen.auto.vertices ∙ c.loop-s.invariant.1,
  c.cut_site-pen.auto.indexes ∙ c.loop-s.invariant.2,
  length-set c.loop-s.offsets c.loop-s.s c.loop-s.pen.at ∙ c.loop-s.invariant.3,
)

pub overflow_cast-offsets-2 : goal.overflow_cast-offsets-2
overflow_cast-offsets-2 c = omega (arith, sheeting_at _ _ _ _ _ _ c.loop-s.invariant.0)

pub returns : goal.returns
returns c =
    let e = sheeting_end _ _ _ _ _ _ c.loop-s.invariant.0 (omega (arith, c.loop-s-test.false)) in
    let end : c.loop-s.s ≡ length c.args.table.now = omega (arith, c.loop-s.invariant.0.place, c.loop-s-test.false) in
    record { made = rw end at e.0; room = e.1 }
