-- `vertices::buckets::find_near` meets its contract: it stops at the first vertex that is near.
use Rattle.std.proofs.Common.{sym, ap, ◌∙◌, arith}
use Rattle.vertices.specs.Add.{near_pt}
use Rattle.vertices.specs.laws.Points.{near_hit, near_miss, near_end}
use Rattle.vertices.proofs.buckets.find_near.Goals as goal

pub returns-then-near_point-clause-value : goal.returns-then-near_point-clause-value
returns-then-near_point-clause-value c =
    let e = ap (λ q. near_pt q c.args.p) c.point_at.ensures in
    sym (c.loop-i.invariant ∙ near_hit _ _ _ _ c.loop-i-test.true (sym e ∙ sym c.near_point.ensures ∙ c.if-near_point.true))

pub loop-i-preserved : goal.loop-i-preserved
loop-i-preserved c =
    let e = ap (λ q. near_pt q c.args.p) c.point_at.ensures in
    c.loop-i.invariant ∙ near_miss _ _ _ _ c.loop-i-test.true (sym e ∙ sym c.near_point.ensures ∙ c.if-near_point.false)

pub returns-clause-value : goal.returns-clause-value
returns-clause-value c = sym (c.loop-i.invariant ∙ near_end _ _ _ _ c.loop-i-test.false ∙ omega arith)
