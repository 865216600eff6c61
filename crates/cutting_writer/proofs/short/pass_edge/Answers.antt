-- `cutting_writer::short::pass_edge`: the cases of `kept_by`, by what is within.
use Rattle.std.proofs.Common.{◌+◌, ◌∙◌, set, length-set, sym, refl, arith}
use Rattle.cutting_writer.specs.slots.laws.Putting.{put_made}
use Rattle.cutting_writer.specs.short.laws.Passing.{edge_one, edge_two}
use Rattle.cutting_writer.proofs.short.pass_edge.Goals as goal

pub returns-then-there : goal.returns-then-there
returns-then-there c =
    let a = c.args in
    let p = c.requires in
    edge_one a.to a.k p.1 (put_made a.slots.now (a.to + a.k) a.p (omega (arith, p.0, p.1, p.2)))
    (rw (sym c.within-here.ensures ∙ c.if-here.true, sym c.within-there.ensures ∙ c.if-there.true) refl)

pub returns-then-here : goal.returns-then-here
returns-then-here c =
    let a = c.args in
    let p = c.requires in
    edge_two a.to a.k p.1 (put_made a.slots.now (a.to + a.k) a.p (omega (arith, p.0, p.1, p.2)))
    (put_made (set a.slots.now (a.to + a.k) a.p) (a.to + a.k + 1) _ (omega (arith, p.0, p.1, p.2, length-set a.slots.now (a.to + a.k) a.p)))
    (rw (sym c.within-here.ensures ∙ c.if-here.true, sym c.within-there.ensures ∙ c.if-there.false, c.meet.ensures) refl)

pub returns-then-there-2 : goal.returns-then-there-2
returns-then-there-2 c =
    let a = c.args in
    let p = c.requires in
    edge_one a.to a.k p.1 (put_made a.slots.now (a.to + a.k) _ (omega (arith, p.0, p.1, p.2)))
    (rw (sym c.within-here.ensures ∙ c.if-here.false, sym c.within-there.ensures ∙ c.if-there-2.true, c.meet-then-there-2.ensures) refl)
