-- `auditing::nearer::beyond_at` meets its contract: the bisector of the two sites.
use Rattle.std.proofs.Common.{refl}
use Rattle.ring_area.specs.lowest.laws.Loops.{named_twice}
use Rattle.auditing.specs.nearer.laws.Pieces.{other_there, other_site, beyond_is}
use Rattle.auditing.proofs.nearer.beyond_at.Goals as goal

pub other_at-requires : goal.other_at-requires
other_at-requires c = other_there c.args.all c.args.part.now _ c.args.j refl c.requires.1

pub point_at-requires : goal.point_at-requires
point_at-requires c = named_twice _ _ (rw c.other_at.ensures (other_site c.args.all c.args.part.now _ c.args.j refl c.requires.1 c.requires.0.named))

pub returns : goal.returns
returns c =
    beyond_is c.args.far c.args.corner c.args.sites.now c.args.s c.args.part.now c.args.all c.args.j c.requires.2 c.other_at.ensures
    c.point_at.ensures c.is_beyond.ensures
