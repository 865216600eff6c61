-- Each turn counts one corner more.
use Rattle.std.proofs.Common.{rules, arith}
use Rattle.cell_builder.specs.finish.laws.LostLeft.{lost_start, lost_step, lost_all}
use Rattle.cell_builder.proofs.finish.lost_corners.Goals as goal

pub loop-k-init : goal.loop-k-init
loop-k-init c = let a = c.args in (search rules, omega arith, lost_start a.first a.left a.entries.now)

pub loop-k-preserved : goal.loop-k-preserved
loop-k-preserved c =
    let a = c.args in
    let i = c.loop-k.invariant in (
      i.0,
      omega (arith, c.lost_corner-n.ensures.1),
      lost_step a.first a.left a.entries.now c.loop-k.k c.loop-k.n _ (omega (arith, i.0)) i.2 c.lost_corner-n.ensures.0,
    )

pub returns : goal.returns
returns c =
    let a = c.args in
    let i = c.loop-k.invariant in
    lost_all a.first a.left a.entries.now c.loop-k.k _ (omega (arith, i.0)) i.2
