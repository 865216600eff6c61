-- `certifying::tree::none_nearer` meets its contract: no piece that was passed has such a corner, and every site has a place.
use Rattle.std.proofs.Common.{[], ◌/◌, length, arith}
use Rattle.std.proofs.lemmas.List.{length-take-le}
use Rattle.auditing.specs.nearer.Nearer.{site_nearer}
use Rattle.certifying.specs.tree.laws.Search.{before_all_lem}
use Rattle.certifying.proofs.tree.none_nearer.Goals as goal

pub returns : goal.returns
returns c _ =
    before_all_lem (site_nearer c.args.far c.args.sites.now [] [] c.args.vertices.now c.args.offsets.now c.args.indexes.now) c.args.room.now
    c.requires.1.order c.loop-s.invariant
    (omega (arith, c.loop-s-test.false, length-take-le (length c.args.sites.now / 2) c.args.room.now c.requires.1.order.long))
