-- `auditing::rings::first_folded` meets its contract: what `find` tells is the lowest.
use Rattle.std.proofs.Common.{◌≡◌, true, false, rules}
use Rattle.std.proofs.lemmas.Iterator.{first_from_Range}
use Rattle.ring_area.specs.lowest.laws.Found.{found}
use Rattle.auditing.specs.rings.Fan.{site_folds}
use Rattle.auditing.proofs.rings.first_folded.Goals as goal

pub returns : goal.returns
returns c box bits e =
    let p = site_folds box bits c.args.vertices.now c.args.offsets.now c.args.indexes.now in
    rw c.cell_count-count.ensures at
    (found p c.cell_count-count.result c.find.result (first_from_Range _ _ _ c.find.result (λ k. p k ≡ true) (λ k. p k ≡ false) c.find.ensures.ran (λ x q k. search rules) (λ x q k. search rules)) c.unwrap_or.ensures)
