-- `certifying::tree::first_in_order` meets its contract: what `find` tells is the lowest.
use Rattle.std.proofs.Common.{◌≡◌, true, false, [], rules}
use Rattle.std.proofs.lemmas.Iterator.{first_from_Range}
use Rattle.ring_area.specs.lowest.laws.Found.{found}
use Rattle.auditing.specs.nearer.Nearer.{site_nearer}
use Rattle.certifying.proofs.tree.first_in_order.Goals as goal

pub returns : goal.returns
returns c =
    let p = site_nearer c.args.far c.args.sites.now [] [] c.args.vertices.now c.args.offsets.now c.args.indexes.now in
    found p _ c.find.result
    (first_from_Range _ _ _ c.find.result (λ k. p k ≡ true) (λ k. p k ≡ false) c.find.ensures.ran (λ x q k. search rules) (λ x q k. search rules))
    c.unwrap_or.ensures
