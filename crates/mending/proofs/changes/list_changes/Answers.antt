-- Each place adds its change.
use Rattle.std.proofs.Common.{arith}
use Rattle.mending.specs.changes.laws.Listing.{listing_start, listing_step}
use Rattle.mending.proofs.changes.list_changes.Goals as goal

pub loop-i-init : goal.loop-i-init
loop-i-init c = listing_start _ _ _ _

pub loop-i-preserved : goal.loop-i-preserved
loop-i-preserved c =
    listing_step _ _ _ _ _ _ _ c.loop-i.invariant _ _ (omega (arith, c.longest-end.ensures)) c.put_change-n.auto.changes c.put_change-n.ensures.0 c.put_change-n.ensures.1
