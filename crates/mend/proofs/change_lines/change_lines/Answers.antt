-- `mend::change_lines::change_lines` meets its contract: the invariant is that the lines so far are written; each turn writes one more.
use mathlib.Core.Path.{refl, sym, subst}
use Prim.Native.Nat.{◌+◌, ◌*◌, ◌≤◌, ◌<◌}
use native.Mathlib.Omega.{arith}
use lib.ListN.{length}
use Rattle.octets.specs.Wrote.{HasRoom}
use Rattle.octets.specs.laws.Wrote.{lined_start, lined_end, wrote_length, wrote_as}
use Rattle.octets.specs.laws.Lines.{line_fits, line_written}
use Rattle.mend.specs.change_lines.laws.ChangeLines.{lines_are}
use Rattle.mend.proofs.change_lines.change_lines.Goals as goal

pub loop-i-init : goal.loop-i-init
loop-i-init c =
    let a = c.args in
    lined_start _ a.count a.out.now a.at refl

pub change_line-end-requires : goal.change_line-end-requires
change_line-end-requires c =
    let turn : c.loop-i.i < c.args.count = c.loop-i-test.true in
    line_fits _ c.loop-i.invariant turn refl (subst (HasRoom c.args.out.now c.args.at) (lines_are c.args.label.now c.args.changes.now c.args.count c.args.from) c.requires.1)

pub loop-i-preserved : goal.loop-i-preserved
loop-i-preserved c =
    let turn : c.loop-i.i < c.args.count = c.loop-i-test.true in
    line_written _ c.loop-i.invariant turn refl c.change_line-end.ensures

pub returns : goal.returns
returns c =
    let a = c.args in
    wrote_as (lined_end c.loop-i.invariant c.loop-i-test.false) (sym (lines_are a.label.now a.changes.now a.count a.from))

pub overflow_add-k : goal.overflow_add-k
overflow_add-k c =
    let turn : c.loop-i.i < c.args.count = c.loop-i-test.true in
    let inside : 3 * ((c.args.from) + (c.loop-i.i)) + 3 ≤ length c.args.changes.now = omega (arith, turn, c.requires.0) in
    let bytes : (3 * ((c.args.from) + (c.loop-i.i)) + 3) * 4 < 18446744073709551616 = omega (arith, inside, c.well_formed.1.1.1.0.1) in
    omega (arith, bytes)

pub overflow_mul-k : goal.overflow_mul-k
overflow_mul-k c =
    let turn : c.loop-i.i < c.args.count = c.loop-i-test.true in
    let inside : 3 * ((c.args.from) + (c.loop-i.i)) + 3 ≤ length c.args.changes.now = omega (arith, turn, c.requires.0) in
    let bytes : (3 * ((c.args.from) + (c.loop-i.i)) + 3) * 4 < 18446744073709551616 = omega (arith, inside, c.well_formed.1.1.1.0.1) in
    omega (arith, bytes)

pub offset_bounds-changes-k : goal.offset_bounds-changes-k
offset_bounds-changes-k c =
    let turn : c.loop-i.i < c.args.count = c.loop-i-test.true in
    let inside : 3 * ((c.args.from) + (c.loop-i.i)) + 3 ≤ length c.args.changes.now = omega (arith, turn, c.requires.0) in
    let bytes : (3 * ((c.args.from) + (c.loop-i.i)) + 3) * 4 < 18446744073709551616 = omega (arith, inside, c.well_formed.1.1.1.0.1) in
    omega (arith, bytes)

pub bounds-changes-k : goal.bounds-changes-k
bounds-changes-k c =
    let turn : c.loop-i.i < c.args.count = c.loop-i-test.true in
    let inside : 3 * ((c.args.from) + (c.loop-i.i)) + 3 ≤ length c.args.changes.now = omega (arith, turn, c.requires.0) in
    omega (arith, inside)

pub overflow_add-k-in-loop-i : goal.overflow_add-k-in-loop-i
overflow_add-k-in-loop-i c =
    let turn : c.loop-i.i < c.args.count = c.loop-i-test.true in
    let inside : 3 * ((c.args.from) + (c.loop-i.i)) + 3 ≤ length c.args.changes.now = omega (arith, turn, c.requires.0) in
    let bytes : (3 * ((c.args.from) + (c.loop-i.i)) + 3) * 4 < 18446744073709551616 = omega (arith, inside, c.well_formed.1.1.1.0.1) in
    omega (arith, bytes)

pub offset_bounds-changes-k-in-loop-i : goal.offset_bounds-changes-k-in-loop-i
offset_bounds-changes-k-in-loop-i c =
    let turn : c.loop-i.i < c.args.count = c.loop-i-test.true in
    let inside : 3 * ((c.args.from) + (c.loop-i.i)) + 3 ≤ length c.args.changes.now = omega (arith, turn, c.requires.0) in
    let bytes : (3 * ((c.args.from) + (c.loop-i.i)) + 3) * 4 < 18446744073709551616 = omega (arith, inside, c.well_formed.1.1.1.0.1) in
    omega (arith, bytes)

pub bounds-changes-k-in-loop-i : goal.bounds-changes-k-in-loop-i
bounds-changes-k-in-loop-i c =
    let turn : c.loop-i.i < c.args.count = c.loop-i-test.true in
    let inside : 3 * ((c.args.from) + (c.loop-i.i)) + 3 ≤ length c.args.changes.now = omega (arith, turn, c.requires.0) in
    omega (arith, inside)

pub overflow_add-k-in-loop-i-2 : goal.overflow_add-k-in-loop-i-2
overflow_add-k-in-loop-i-2 c =
    let turn : c.loop-i.i < c.args.count = c.loop-i-test.true in
    let inside : 3 * ((c.args.from) + (c.loop-i.i)) + 3 ≤ length c.args.changes.now = omega (arith, turn, c.requires.0) in
    let bytes : (3 * ((c.args.from) + (c.loop-i.i)) + 3) * 4 < 18446744073709551616 = omega (arith, inside, c.well_formed.1.1.1.0.1) in
    omega (arith, bytes)

pub offset_bounds-changes-k-in-loop-i-2 : goal.offset_bounds-changes-k-in-loop-i-2
offset_bounds-changes-k-in-loop-i-2 c =
    let turn : c.loop-i.i < c.args.count = c.loop-i-test.true in
    let inside : 3 * ((c.args.from) + (c.loop-i.i)) + 3 ≤ length c.args.changes.now = omega (arith, turn, c.requires.0) in
    let bytes : (3 * ((c.args.from) + (c.loop-i.i)) + 3) * 4 < 18446744073709551616 = omega (arith, inside, c.well_formed.1.1.1.0.1) in
    omega (arith, bytes)

pub bounds-changes-k-in-loop-i-2 : goal.bounds-changes-k-in-loop-i-2
bounds-changes-k-in-loop-i-2 c =
    let turn : c.loop-i.i < c.args.count = c.loop-i-test.true in
    let inside : 3 * ((c.args.from) + (c.loop-i.i)) + 3 ≤ length c.args.changes.now = omega (arith, turn, c.requires.0) in
    omega (arith, inside)

pub loop-i-smaller : goal.loop-i-smaller
loop-i-smaller c =
    let turn : c.loop-i.i < c.args.count = c.loop-i-test.true in
    omega (arith, turn)

pub shape_of-out : goal.shape_of-out
shape_of-out c = wrote_length c.loop-i.invariant.wrote
