-- `form::feed` meets its contract: each byte carries `Feeding` one further.
use Rattle.form.specs.step.Reader.{reading}
use Rattle.form.specs.laws.Feed.{feeding_start, feeding_step, feeding_end, room_same}
use Rattle.form.proofs.feed.Goals as goal

pub loop-b-init : goal.loop-b-init
loop-b-init c =
    let a = c.args in
    feeding_start a.bytes.now (reading a.r a.bounds.now a.sites.now a.triangles.now a.halfedges.now a.hull.now) c.requires.0

pub take-n-requires : goal.take-n-requires
take-n-requires c = (c.loop-b.invariant.ok, room_same c.requires.1 c.loop-b.invariant.same)

pub loop-b-preserved : goal.loop-b-preserved
loop-b-preserved c =
    let k = c.take-n.auto in
    feeding_step c.loop-b.invariant _ c.loop-b-test.true c.take-n.ensures.all
    (record { bounds = k.bounds; sites = k.sites; triangles = k.triangles; halfedges = k.halfedges; hull = k.hull })

pub returns : goal.returns
returns c = record { all = feeding_end c.loop-b.invariant c.loop-b-test.false; ok = c.loop-b.invariant.ok }
