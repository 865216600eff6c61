-- Fewer than three sites are no hull; else rules 9 and 10 on the loop decide.
use Rattle.std.proofs.Common.{refl, sym, arith}
use Rattle.mesh.specs.laws.Refusing.{fault_number}
use Rattle.mending.specs.border.laws.Deciding.{few_on, hull_room, traced_short, traced_checked}
use Rattle.mending.proofs.border.mend_hull.Goals as goal
use lib.Seq.{length-take-le, length_front}

pub returns-then-count-lt3 : goal.returns-then-count-lt3
returns-then-count-lt3 c =
    traced_short _ _ _ _ c.requires.0 c.requires.1 c.requires.2 _ _ _ _ _ _ (length-take-le _ _ c.requires.3) c.trace_hull-count.ensures.0 c.trace_hull-count.ensures.1 c.if-count-lt3.true

pub slice_bounds-check_border-end : goal.slice_bounds-check_border-end
slice_bounds-check_border-end c =
    let r = hull_room _ _ _ _ c.requires.0 c.requires.1 c.requires.2 c.args.work.now c.args.work.now _ _ _ _ (length-take-le _ _ c.requires.3)
    c.trace_hull-count.ensures.0 c.trace_hull-count.ensures.1 c.requires.4 in
    omega (arith, c.trace_hull-count.auto.mended)

pub slice_bounds-check_border-end-2 : goal.slice_bounds-check_border-end-2
slice_bounds-check_border-end-2 c =
    let r = hull_room _ _ _ _ c.requires.0 c.requires.1 c.requires.2 c.args.work.now c.args.work.now _ _ _ _ (length-take-le _ _ c.requires.3)
    c.trace_hull-count.ensures.0 c.trace_hull-count.ensures.1 c.requires.4 in
    sym (length-take-le _ _ (omega (arith, c.trace_hull-count.auto.mended)))

pub check_border-requires : goal.check_border-requires
check_border-requires c =
    let k = few_on _ _ _ _ c.requires.0 c.requires.1 c.requires.2 c.args.work.now c.args.work.now _ _ _ _ (length-take-le _ _ c.requires.3)
    c.trace_hull-count.ensures.0 c.trace_hull-count.ensures.1 in
    let r = hull_room _ _ _ _ c.requires.0 c.requires.1 c.requires.2 c.args.work.now c.args.work.now _ _ _ _ (length-take-le _ _ c.requires.3)
    c.trace_hull-count.ensures.0 c.trace_hull-count.ensures.1 c.requires.4 in (
      c.requires.0.threes,
      c.requires.1,
      c.requires.0.small,
      rw (length-take-le c.trace_hull-count.result c.trace_hull-count.new.mended (omega (arith, c.trace_hull-count.auto.mended))) (omega (arith, c.requires.2)),
      rw (length_front c.args.work.now c.trace_hull-count.new.work c.args.sites c.trace_hull-count.auto.work) c.requires.3,
      c.requires.5,
      c.requires.6,
    )

pub returns-in-Ok : goal.returns-in-Ok
returns-in-Ok c =
    traced_checked _ _ _ _ c.requires.0 c.requires.1 c.requires.2 _ _ _ _ _ _ (length-take-le _ _ c.requires.3)
    c.trace_hull-count.ensures.0 c.trace_hull-count.ensures.1 c.if-count-lt3.false c.requires.4 _
    (length_front c.args.work.now c.trace_hull-count.new.work c.args.sites c.trace_hull-count.auto.work) _ c.in-Ok.ensures _ refl

pub returns-in-Err : goal.returns-in-Err
returns-in-Err c =
    rw c.into.ensures
    (traced_checked _ _ _ _ c.requires.0 c.requires.1 c.requires.2 _ _ _ _ _ _ (length-take-le _ _ c.requires.3)
    c.trace_hull-count.ensures.0 c.trace_hull-count.ensures.1 c.if-count-lt3.false c.requires.4 _
    (length_front c.args.work.now c.trace_hull-count.new.work c.args.sites c.trace_hull-count.auto.work) _ c.in-Err.ensures _ (fault_number _))
