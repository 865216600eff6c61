-- `building::counts::put_counts` meets its contract: nine stores, then the rest is cleared.
use Rattle.std.proofs.Common.{arith, ◌≡◌, length}
use Rattle.building.specs.counts.laws.Counts.{counted}
use Rattle.building.proofs.counts.put_counts.Goals as goal

pub returns : goal.returns
returns c =
    let n : length c.args.owners ≡ 4 = omega (arith, c.well_formed.1.0) in
    counted c.args.counts.now c.args.vertices c.args.owners c.args.lost c.args.reused _ c.requires.1 n c.fill_from.ensures
