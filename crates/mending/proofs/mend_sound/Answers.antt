-- A refusal clears every slice; else what was worked out stays, and its changes are listed.
use Rattle.std.proofs.Common.{refl, arith}
use Rattle.base.specs.refusal.laws.Number.{some_number}
use Rattle.mending.specs.laws.Outcomes.{sound_refused}
use Rattle.mending.specs.laws.Working.{part_long, part_few, pairs_few, places_few, sound_made}
use Rattle.mending.proofs.mend_sound.Goals as goal
use lib.Seq.{length-take-le}

pub returns-in-Err : goal.returns-in-Err
returns-in-Err c =
    sound_refused _ _ _ _ _ _ _ _ c.in-Err.ensures.found (some_number _) c.clear_all.ensures
    c.work_out.auto.work c.work_out.auto.pairs c.work_out.auto.mended c.work_out.auto.changes

pub list_both-repaired-requires : goal.list_both-repaired-requires
list_both-repaired-requires c =
    let f = part_few _ c.args.halfedges.now c.args.hull.now _ _ _ _ _ c.in-Ok.ensures refl in
    let l = part_long _ c.args.halfedges.now c.args.hull.now _ _ _ _ _ c.in-Ok.ensures refl in
    let m = length-take-le c.in-Ok.count c.work_out.new.mended (omega (arith, c.work_out.auto.mended, c.requires.0.for_hull)) in (
      omega (arith, c.requires.1.same, c.requires.0.named.small, c.requires.1.fits, c.requires.0.few),
      omega (arith, c.requires.1.same, c.requires.0.named.small, c.requires.1.fits, c.requires.0.few),
      omega (arith, c.requires.1.same, c.requires.1.fits, c.requires.1.for_changes, c.work_out.auto.changes),
    )

pub overflow_cast-result : goal.overflow_cast-result
overflow_cast-result c = omega (arith, part_few _ c.args.halfedges.now c.args.hull.now _ _ _ _ _ c.in-Ok.ensures refl, c.requires.0.few)

pub overflow_cast-result-2 : goal.overflow_cast-result-2
overflow_cast-result-2 c =
    omega (arith, pairs_few _ c.args.halfedges.now c.args.hull.now _ _ _ _ _ c.in-Ok.ensures refl _ c.requires.1.same c.list_both-repaired.ensures.first, c.requires.0.named.small)

pub overflow_cast-result-3 : goal.overflow_cast-result-3
overflow_cast-result-3 c =
    omega (arith, places_few _ c.args.halfedges.now c.args.hull.now _ _ _ _ _ c.in-Ok.ensures refl _ c.requires.1.fits c.list_both-repaired.ensures.then, c.requires.0.few)

pub returns : goal.returns
returns c = sound_made _ _ _ _ _ _ _ _ c.in-Ok.ensures refl _ _ _ c.list_both-repaired.ensures c.work_out.auto.changes
