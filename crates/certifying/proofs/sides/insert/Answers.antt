-- `certifying::sides::insert` meets its contract.
use Rattle.certifying.specs.sides.Chains.{laid_ends}
use Rattle.certifying.specs.sides.laws.Buckets.{bucket_of_lem}
use Rattle.certifying.specs.sides.laws.Inserting.{side_safe, side_to, inserts_one}
use Rattle.certifying.proofs.sides.insert.Goals as goal

pub side_at-side-requires : goal.side_at-side-requires
side_at-side-requires c = side_safe c.requires.1.lie c.requires.0

pub returns : goal.returns
returns c =
    let to = side_to c.requires.1.lie c.requires.0 c.side_at-side.ensures.1 in
    inserts_one c.requires.1 c.requires.0
    (bucket_of_lem c.args.vertices.now c.args.indexes.now (laid_ends c.args.work.now c.args.count) c.args.count c.args.k c.side_at-side.ensures.0 to c.bucket-m.ensures.0)
    c.bucket-m.ensures.1 c.push_front.ensures
