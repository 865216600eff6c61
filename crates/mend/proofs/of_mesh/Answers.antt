-- `mend::of_mesh`: what the mending answers and leaves in its slices gives the text.
use Rattle.std.proofs.Common.{sym, arith, length-take, length-take-le}
use Rattle.mending.specs.slices.Lent.{lent}
use Rattle.mend.specs.laws.Shows.{ProgramLent, few, held}
use Rattle.mend.proofs.of_mesh.Goals as goal

pub slice_bounds-mended-end : goal.slice_bounds-mended-end
slice_bounds-mended-end c =
    let k = c.mend_lent-answered in
    let long : ProgramLent (lent k.new.work k.new.pairs k.new.mended k.new.changes) =
    record { work = omega (arith, k.auto.work); pairs = omega (arith, k.auto.pairs); mended = omega (arith, k.auto.mended); changes = omega (arith, k.auto.changes) } in
    let bound = few _ _ _ _ _ _ _ _ _ _ k.ensures (record { work = omega arith; pairs = omega arith; mended = omega arith; changes = omega arith }) long in
    omega (arith, c.wide-count.ensures, bound.0, long.mended)

pub slice_bounds-show-end-2 : goal.slice_bounds-show-end-2
slice_bounds-show-end-2 c =
    let k = c.mend_lent-answered in
    let long : ProgramLent (lent k.new.work k.new.pairs k.new.mended k.new.changes) =
    record { work = omega (arith, k.auto.work); pairs = omega (arith, k.auto.pairs); mended = omega (arith, k.auto.mended); changes = omega (arith, k.auto.changes) } in
    let bound = few _ _ _ _ _ _ _ _ _ _ k.ensures (record { work = omega arith; pairs = omega arith; mended = omega arith; changes = omega arith }) long in
    sym (length-take-le _ _ (omega (arith, c.wide-count.ensures, bound.0, long.mended)))

pub show-requires : goal.show-requires
show-requires c =
    let k = c.mend_lent-answered in
    let long : ProgramLent (lent k.new.work k.new.pairs k.new.mended k.new.changes) =
    record { work = omega (arith, k.auto.work); pairs = omega (arith, k.auto.pairs); mended = omega (arith, k.auto.mended); changes = omega (arith, k.auto.changes) } in
    let bound = few _ _ _ _ _ _ _ _ _ _ k.ensures (record { work = omega arith; pairs = omega arith; mended = omega arith; changes = omega arith }) long in
    record {
      head = c.requires.1.head;
      same = length-take-le _ _ (omega (arith, c.requires.1.few_triangles, long.pairs));
      few_triangles = c.requires.1.few_triangles;
      few_on_hull = simp length-take (omega (arith, c.wide-count.ensures, bound.0));
      few_changes = bound.1;
      changes = omega (arith, bound.1, long.changes);
      room = c.requires.1.room;
    }

pub returns : goal.returns
returns c =
    let k = c.mend_lent-answered in
    let long : ProgramLent (lent k.new.work k.new.pairs k.new.mended k.new.changes) =
    record { work = omega (arith, k.auto.work); pairs = omega (arith, k.auto.pairs); mended = omega (arith, k.auto.mended); changes = omega (arith, k.auto.changes) } in
    let bound = few _ _ _ _ _ _ _ _ _ _ k.ensures (record { work = omega arith; pairs = omega arith; mended = omega arith; changes = omega arith }) long in
    held _ _ _ _ _ _ _ _ _ _ k.ensures (record { work = omega arith; pairs = omega arith; mended = omega arith; changes = omega arith }) long
    c.args.form c.args.first.now c.args.records.now c.requires.0 c.wide-count.ensures c.number_with-number.ensures
    c.requires.1 (record {
      head = c.requires.1.head;
      same = length-take-le _ _ (omega (arith, c.requires.1.few_triangles, long.pairs));
      few_triangles = c.requires.1.few_triangles;
      few_on_hull = simp length-take (omega (arith, c.wide-count.ensures, bound.0));
      few_changes = bound.1;
      changes = omega (arith, bound.1, long.changes);
      room = c.requires.1.room;
    }) c.show.ensures
