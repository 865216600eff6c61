-- An entry is taken apart by `unpacks_step`, or left alone.
use Rattle.std.proofs.Common.{refl, arith}
use Rattle.std.proofs.lemmas.List.{set-get_or}
use Rattle.mesh_check.specs.degrees.laws.Packing.{unpacks_pass, unpacks_step}
use Rattle.mesh_check.proofs.degrees.unpack.Goals as goal
use Rattle.mesh_check.proofs.degrees.unpack.Goals.{then-left-lt-ENDS+else-not-reaches, else-left-lt-ENDS}

pub loop-entry-preserved : goal.loop-entry-preserved
loop-entry-preserved c =
    let l = c.loop-entry in
    let he = c.args.halfedges.now in
    let old = c.args.work.now in
    elim c.if-left-lt-ENDS.branch [
      | then-left-lt-ENDS+else-not-reaches w ↦ rw w.work-is (
          unpacks_step he old l.work l.entry-index l.invariant (omega arith) _ w.wide.result w.if-left-lt-ENDS.true refl w.wide.ensures (w.reaches.ensures w.if-not-reaches.false)
          )
      | else-left-lt-ENDS w ↦ rw (w.work-is, set-get_or) (unpacks_pass he old l.work l.entry-index l.invariant w.if-left-lt-ENDS.false)
    ]
