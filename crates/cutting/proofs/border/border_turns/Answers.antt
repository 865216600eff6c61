-- `cutting::border::border_turns`: each place more by `turns_step`; there are no more turns than places.
use Rattle.std.proofs.Common.{arith, refl}
use Rattle.cutting.specs.border.Border.{turns_to}
use Rattle.cutting.specs.border.laws.Counting.{turns_small, turns_step}
use Rattle.cutting.proofs.border.border_turns.Goals as goal

pub loop-i-init : goal.loop-i-init
unfolding turns_to
loop-i-init c = refl

pub turned_at-t-requires : goal.turned_at-t-requires
turned_at-t-requires c =
    let a = c.args in
    let s = turns_small a.b a.sites.now a.triangles.now a.hull.now a.table.now a.centers.now c.loop-i.i in
    rw c.loop-i.invariant (omega (arith, s.0), omega (arith, s.1))

pub loop-i-preserved : goal.loop-i-preserved
loop-i-preserved c = let a = c.args in turns_step a.b a.sites.now a.triangles.now a.hull.now a.table.now a.centers.now c.loop-i.i c.loop-i.invariant c.turned_at-t.ensures
