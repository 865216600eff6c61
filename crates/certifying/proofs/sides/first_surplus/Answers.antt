-- `certifying::sides::first_surplus` meets its contract.
use Rattle.std.proofs.Common.{◌≡◌, true, false, rules}
use Rattle.std.proofs.lemmas.Iterator.{first_from_Range}
use Rattle.ring_area.specs.lowest.laws.Found.{found}
use Rattle.certifying.specs.sides.Chains.{laid_ends}
use Rattle.certifying.specs.sides.Sides.{surplus_at}
use Rattle.certifying.proofs.sides.first_surplus.Goals as goal

pub returns : goal.returns
returns c =
    let n = c.args.count in
    let p = surplus_at c.args.bounds c.args.vertices.now c.args.indexes.now (laid_ends c.args.work.now n) n in
    found p n c.find.result
    (first_from_Range _ _ _ c.find.result (λ k. p k ≡ true) (λ k. p k ≡ false) c.find.ensures.ran (λ x q k. search rules) (λ x q k. search rules))
    c.unwrap_or.ensures
