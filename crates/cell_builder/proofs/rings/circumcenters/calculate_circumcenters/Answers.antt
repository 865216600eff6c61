-- A center that breaks its rule ends it, another is put and carries it one triangle further.
use Rattle.std.specs.Prelude.{not, ◌≡◌, [], ◌/◌, length}
use Rattle.std.proofs.Common.{arith, ap, sym, ◌∙◌, subst}
use borrow.Author.Tests.{not-true, not-false}
use Rattle.definition.specs.Build.{centers_from}
use Rattle.cell_builder.specs.rings.Centers.{CentersBy}
use Rattle.cell_builder.specs.rings.laws.Centers.{centers_start, centers_bad, centers_step, centers_end}
use Rattle.cell_builder.proofs.rings.circumcenters.calculate_circumcenters.Goals as goal

pub loop-t-init : goal.loop-t-init
loop-t-init c = centers_start _ _ _ _

pub returns-then-not-center_ok : goal.returns-then-not-center_ok
returns-then-not-center_ok c =
    centers_bad _ _ _ _ _ _ c.loop-t.invariant (omega arith) _ _ c.center_at-c.ensures
    (sym c.center_ok.ensures ∙ not-true _ (ap not c.if-not-center_ok.true))

pub loop-t-preserved : goal.loop-t-preserved
loop-t-preserved c =
    centers_step _ _ _ _ _ _ c.loop-t.invariant (omega arith) c.requires.1 _ _ c.put.ensures
    c.center_at-c.ensures (sym c.center_ok.ensures ∙ not-false _ (ap not c.if-not-center_ok.false))

pub returns : goal.returns
returns c =
    let n = length c.args.triangles.now / 3 in
    let e : c.loop-t.t ≡ n = omega arith in
    subst (λ t. CentersBy (centers_from c.args.sites.now c.args.triangles.now 0 n []) n t c.args.vertices.now c.loop-t.vertices) e
    (centers_end _ _ _ _ _ _ c.loop-t.invariant (omega arith))
