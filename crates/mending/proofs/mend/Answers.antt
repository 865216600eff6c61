-- After 1, 2 and 6 nothing has changed, after 7 all is cleared; else rules 19, 9 and 10 follow.
use Rattle.std.proofs.Common.{refl}
use Rattle.std.proofs.lemmas.Result.{err_from_is_err_and}
use Rattle.base.specs.refusal.laws.Number.{some_number}
use Rattle.mesh.specs.Accepted.{mesh}
use Rattle.mending.specs.slices.Lent.{lent}
use Rattle.mending.specs.laws.Outcomes.{mends_held, mends_seven, ready, lists, mends_worked}
use Rattle.mending.proofs.mend.Goals as goal

pub returns-in_err-admit_mend : goal.returns-in_err-admit_mend
returns-in_err-admit_mend c =
    let p = err_from_is_err_and c.from_residual.result c.from_residual.ensures.1 in
    rw (p.1, p.2) (mends_held (mesh c.args.sites.now c.args.triangles.now c.args.halfedges.now c.args.hull.now) _ _ c.in_err-admit_mend.ensures (some_number _))

pub returns-then-check_triangles-triangles : goal.returns-then-check_triangles-triangles
returns-then-check_triangles-triangles c =
    mends_seven (mesh c.args.sites.now c.args.triangles.now c.args.halfedges.now c.args.hull.now) _ _ c.in_ok-admit_mend.ensures refl _
    c.check_triangles.ensures c.if-check_triangles-triangles.true _ c.clear_all.ensures

pub mend_sound-requires : goal.mend_sound-requires
mend_sound-requires c =
    let m = mesh c.args.sites.now c.args.triangles.now c.args.halfedges.now c.args.hull.now in
    let l = lent c.args.work.now c.args.pairs.now c.args.mended.now c.args.changes.now in (
      ready m l _ c.in_ok-admit_mend.ensures refl _ c.check_triangles.ensures c.if-check_triangles-triangles.false,
      lists m l _ c.in_ok-admit_mend.ensures refl _ c.check_triangles.ensures c.if-check_triangles-triangles.false,
    )

pub returns : goal.returns
returns c =
    mends_worked (mesh c.args.sites.now c.args.triangles.now c.args.halfedges.now c.args.hull.now) _ _ c.in_ok-admit_mend.ensures refl _
    c.check_triangles.ensures c.if-check_triangles-triangles.false _ _ _ _ _ c.mend_sound.ensures
