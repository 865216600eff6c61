-- What is packed is unpacked to the leftmost table, by `long_walks`.
use Rattle.std.proofs.Common.{ap, ◌∙◌, not, arith}
use borrow.Author.Tests.{not-false}
use Rattle.mesh_check.specs.degrees.laws.Packing.{long_walks}
use Rattle.mesh_check.proofs.degrees.whole_fans.Goals as goal

pub take_unpaired-requires : goal.take_unpaired-requires
take_unpaired-requires c =
    let p = c.pack_lowest in
    (c.requires.0, c.requires.1, omega arith, λ k l. rw p.auto.work (c.requires.2 k l), p.ensures (not-false _ (ap not c.if-not-pack_lowest.false)))

pub returns : goal.returns
returns c =
    let p = c.pack_lowest in
    let u = c.take_unpaired in
    λ h. long_walks c.args.triangles.now c.args.halfedges.now _ _ _ c.requires.0 (omega arith) c.requires.2 (u.auto.work ∙ p.auto.work) u.ensures
    (c.unpack.ensures h) c.requires.1 c.requires.3 c.requires.4
