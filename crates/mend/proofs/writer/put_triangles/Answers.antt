-- `mend::writer::put_triangles` meets its contract: the invariant is that the triangles so far are written; each turn writes one more, of a part of each list.
use Rattle.std.proofs.Common.{sym, subst, arith, ◌≤◌, ◌+◌, ◌*◌, ◌-◌, ◌/◌, length}
use Rattle.octets.specs.Wrote.{HasRoom}
use Rattle.octets.specs.laws.Wrote.{lined_start, lined_fits, lined_step, lined_end, wrote_as}
use Rattle.form.specs.Form.{triangle_bytes}
use Rattle.mend.specs.writer.Written.{triangle_at, triangle_records}
use Rattle.mend.specs.writer.laws.Records.{record_is, records_none, records_more, records_split}
use Rattle.mend.proofs.writer.put_triangles.Goals as goal

pub loop-i-init : goal.loop-i-init
loop-i-init c =
    let a = c.args in
    lined_start _ (length a.triangles.now / 3) a.out.now a.at (records_none a.triangles.now a.halfedges.now)

pub put_triangle-end-requires : goal.put_triangle-end-requires
put_triangle-end-requires c =
    let tri = c.args.triangles.now in
    let he = c.args.halfedges.now in
    let i = c.loop-i.i in
    let inside : 3 * i + 3 ≤ length tri = omega (arith, c.loop-i-test.true) in
    subst (HasRoom c.loop-i.out c.loop-i.end) (sym (record_is tri he i (3 * i) (3 * i + 3) (omega arith) (omega arith) inside c.requires.0))
    (lined_fits c.loop-i.invariant (triangle_bytes (triangle_at tri he i)) (triangle_records tri he (i + 1) (length tri / 3 - (i + 1))) (records_more tri he i)
    (records_split tri he (i + 1) (length tri / 3) (omega (arith, c.loop-i-test.true))) c.requires.1)

pub loop-i-preserved : goal.loop-i-preserved
loop-i-preserved c =
    let tri = c.args.triangles.now in
    let he = c.args.halfedges.now in
    let i = c.loop-i.i in
    let inside : 3 * i + 3 ≤ length tri = omega (arith, c.loop-i-test.true) in
    lined_step c.loop-i.invariant (triangle_bytes (triangle_at tri he i)) c.loop-i-test.true (records_more tri he i)
    (wrote_as c.put_triangle-end.ensures (record_is tri he i (3 * i) (3 * i + 3) (omega arith) (omega arith) inside c.requires.0))

pub returns : goal.returns
returns c = lined_end c.loop-i.invariant c.loop-i-test.false
