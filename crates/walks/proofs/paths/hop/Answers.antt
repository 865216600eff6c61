-- A step that comes is weighed; one that does not ends the hop.
use Rattle.walks.specs.paths.laws.HopLoop.{nearing_start, nearing_less, nearing_below, nearing_site, nearing_end}
use Rattle.walks.proofs.paths.hop.Goals as goal

pub loop-n-init : goal.loop-n-init
loop-n-init c = nearing_start _ _ _ _ _ _ c.requires.0 _ _ _ c.requires.1 (rw c.wide.ensures) c.distance.ensures

pub distance-requires-in-Some : goal.distance-requires-in-Some
distance-requires-in-Some c = nearing_below _ _ _ _ _ _ c.requires.0 c.loop-n.invariant _ _ c.in-Some.ensures

pub loop-n-smaller : goal.loop-n-smaller
loop-n-smaller c = nearing_less _ _ _ _ _ _ c.requires.0 c.loop-n.invariant _ _ c.in-Some.ensures

pub loop-n-preserved : goal.loop-n-preserved
loop-n-preserved c = rw c.nearer-best.ensures (nearing_site _ _ _ _ _ _ c.requires.0 c.loop-n.invariant _ _ c.in-Some.ensures _ c.distance-in-Some.ensures)

pub returns : goal.returns
returns c = nearing_end _ _ _ _ _ _ c.requires.0 c.loop-n.invariant c.in_default.ensures
