-- The path stops where the hop does, else it goes on.
use Rattle.std.proofs.Common.{arith, subst, ◌≡◌, length}
use Rattle.std.specs.Prelude.{false, true, set}
use Rattle.walks.specs.neighbours.Fills.{Fills}
use Rattle.walks.specs.paths.Path.{whole_path}
use Rattle.walks.specs.paths.laws.PathLoops.{writing_stop, writing_go, writing_full}
use Rattle.walks.proofs.paths.path.Goals as goal

pub returns-then-next-at : goal.returns-then-next-at
returns-then-next-at c =
    subst
    (λ n. Fills (whole_path c.args.sites.now c.args.triangles.now c.args.halfedges.now c.args.table.now c.args.p c.args.s) c.args.out.now (set c.loop-n.out c.loop-n.n c.loop-n.at) n true)
    (omega arith)
    (writing_stop _ _ _ _ _ c.requires.0 c.requires.1 _ _ c.loop-n.invariant _ c.hop-next.ensures.0 (omega arith) c.if-next-at.true)

pub loop-n-preserved : goal.loop-n-preserved
loop-n-preserved c =
    writing_go _ _ _ _ _ c.requires.0 c.requires.1 _ _ c.loop-n.invariant _ c.hop-next.ensures.0 (omega arith) c.if-next-at.false c.hop-next.ensures.1

pub returns : goal.returns
returns c =
    let e : c.loop-n.n ≡ length c.loop-n.out = omega arith in
    subst
    (λ n. Fills (whole_path c.args.sites.now c.args.triangles.now c.args.halfedges.now c.args.table.now c.args.p c.args.s) c.args.out.now c.loop-n.out n false)
    e
    (writing_full _ _ _ _ _ c.requires.0 c.requires.1 _ _ c.loop-n.invariant (omega arith))
