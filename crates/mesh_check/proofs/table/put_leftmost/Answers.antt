-- Two passes; what they leave is the table.
use Rattle.std.proofs.Common.{◌∙◌}
use Rattle.mesh_check.specs.table.laws.Filling.{filled}
use Rattle.mesh_check.proofs.table.put_leftmost.Goals as goal

pub take_unpaired-requires : goal.take_unpaired-requires
take_unpaired-requires c =
    (c.requires.0, c.requires.1, c.requires.2, λ k l. rw c.put_lowest.auto.work (c.requires.3 k l), c.put_lowest.ensures)

pub returns : goal.returns
returns c =
    filled c.args.triangles.now c.args.halfedges.now _ _ c.requires.0 c.requires.2 c.requires.3 (c.take_unpaired.auto.work ∙ c.put_lowest.auto.work) c.take_unpaired.ensures
