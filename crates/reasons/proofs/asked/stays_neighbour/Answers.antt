-- A step that comes is t or leaves t to be sought among the others.
use Rattle.std.proofs.Common.{arith, refl}
use Rattle.walks.specs.shared.Cells.{share_edge_of}
use Rattle.walks.specs.neighbours.laws.Rest.{settled_start}
use Rattle.reasons.specs.laws.Search.{staying_start, staying_found, staying_step, staying_less, staying_none}
use Rattle.reasons.proofs.asked.stays_neighbour.Goals as goal

pub loop-x-init : goal.loop-x-init
loop-x-init c =
    let a = c.args in
    staying_start a.triangles.now a.halfedges.now (share_edge_of a.offsets.now a.indexes.now a.s) a.t (omega (arith, c.requires.0.paired.small)) _
    (settled_start _ _ c.requires.0.paired _)

pub returns-then-x-t : goal.returns-then-x-t
returns-then-x-t c =
    let a = c.args in
    staying_found a.triangles.now a.halfedges.now (share_edge_of a.offsets.now a.indexes.now a.s) a.t c.loop-x.invariant _ c.in-Some.ensures _ _ refl c.if-x-t.true

pub loop-x-smaller : goal.loop-x-smaller
loop-x-smaller c =
    let a = c.args in
    staying_less a.triangles.now a.halfedges.now (share_edge_of a.offsets.now a.indexes.now a.s) a.t c.loop-x.invariant _ c.in-Some.ensures _ _ refl

pub loop-x-preserved : goal.loop-x-preserved
loop-x-preserved c =
    let a = c.args in
    staying_step a.triangles.now a.halfedges.now (share_edge_of a.offsets.now a.indexes.now a.s) a.t c.loop-x.invariant _ c.in-Some.ensures _ _ refl c.if-x-t.false

pub returns : goal.returns
returns c =
    let a = c.args in
    staying_none a.triangles.now a.halfedges.now (share_edge_of a.offsets.now a.indexes.now a.s) a.t c.loop-x.invariant _ c.in_default.ensures refl
