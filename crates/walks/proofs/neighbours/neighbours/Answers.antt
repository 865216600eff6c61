-- A step that comes hands over the first of what is left; one that does not ends it.
use Rattle.std.proofs.Common.{arith, subst, ◌≡◌, length}
use Rattle.mesh.specs.Mesh.{whole_of}
use Rattle.walks.specs.neighbours.Fills.{Fills}
use Rattle.walks.specs.neighbours.Neighbours.{starts_of}
use Rattle.walks.specs.neighbours.laws.Rest.{settled_start}
use Rattle.walks.specs.neighbours.laws.NeighboursLoop.{handing_start, handing_site, handing_end, handing_full}
use Rattle.walks.proofs.neighbours.neighbours.Goals as goal

pub loop-n-init : goal.loop-n-init
loop-n-init c = handing_start _ _ _ (omega (arith, c.requires.0.small)) _ (settled_start _ _ c.requires.0 _)

pub returns-in-None : goal.returns-in-None
returns-in-None c = handing_end _ _ _ (omega (arith, c.requires.0.small)) c.loop-n.invariant c.in-None.ensures

pub loop-n-preserved : goal.loop-n-preserved
loop-n-preserved c = handing_site _ _ _ (omega (arith, c.requires.0.small)) c.loop-n.invariant _ _ (omega arith) c.in-Some.ensures

pub returns : goal.returns
returns c =
    let e : c.loop-n.n ≡ length c.loop-n.out = omega arith in
    subst
    (λ n. Fills (starts_of c.args.triangles.now c.args.halfedges.now (whole_of c.args.halfedges.now c.args.s)) c.args.out.now c.loop-n.out n c.over.result)
    e
    (handing_full _ _ _ (omega (arith, c.requires.0.small)) c.loop-n.invariant (omega arith) _ c.over.ensures)
