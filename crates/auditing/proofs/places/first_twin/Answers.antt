-- `auditing::places::first_twin` meets its contract: what `find` tells is the lowest.
use Rattle.std.proofs.Common.{◌≡◌, true, false, rules}
use Rattle.std.proofs.lemmas.Iterator.{first_from_Range}
use Rattle.ring_area.specs.lowest.laws.Found.{found}
use Rattle.auditing.specs.places.Places.{twin_at}
use Rattle.auditing.proofs.places.first_twin.Goals as goal

pub returns : goal.returns
unfolding twin_at
returns c =
    let p = twin_at c.args.sites.now c.args.s in
    found p _ c.find.result (first_from_Range _ _ _ c.find.result (λ k. p k ≡ true) (λ k. p k ≡ false) c.find.ensures.ran (λ x q k. search rules) (λ x q k. search rules)) c.unwrap_or.ensures
