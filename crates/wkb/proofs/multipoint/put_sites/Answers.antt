-- `wkb::multipoint::put_sites` meets its contract: each entry carries `Pouring` one further.
use Rattle.std.proofs.Common.{arith}
use Rattle.wkb.specs.multipoint.laws.Firsts.{pouring_start, pouring_length, pouring_step, pouring_end}
use Rattle.wkb.proofs.multipoint.put_sites.Goals as goal

pub loop-k-init : goal.loop-k-init
loop-k-init c = pouring_start _ _

pub loop-k-preserved : goal.loop-k-preserved
loop-k-preserved c = pouring_step _ c.loop-k.invariant (omega (arith, pouring_length _ c.loop-k.invariant)) c.entry.ensures

pub returns : goal.returns
returns c = pouring_end _ c.loop-k.invariant (omega (arith, pouring_length _ c.loop-k.invariant))
