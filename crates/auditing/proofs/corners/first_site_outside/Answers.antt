-- `auditing::corners::first_site_outside` meets its contract: what `find` tells is the lowest.
use Rattle.std.proofs.Common.{◌≡◌, true, false, rules}
use Rattle.std.proofs.lemmas.Iterator.{first_from_Range}
use Rattle.ring_area.specs.lowest.laws.Found.{found}
use Rattle.auditing.specs.corners.Outside.{site_outside}
use Rattle.auditing.proofs.corners.first_site_outside.Goals as goal

pub returns : goal.returns
returns c =
    let p = site_outside c.args.bounds c.args.vertices.now c.args.offsets.now c.args.indexes.now in
    rw c.cell_count-count.ensures at
    (found p c.cell_count-count.result c.find.result (first_from_Range _ _ _ c.find.result (λ k. p k ≡ true) (λ k. p k ≡ false) c.find.ensures.ran (λ x q k. search rules) (λ x q k. search rules)) c.unwrap_or.ensures)
