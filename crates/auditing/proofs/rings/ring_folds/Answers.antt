-- `auditing::rings::ring_folds` meets its contract: `any` over the fan's triangles.
use Rattle.std.proofs.Common.{◌≡◌, true, false, rules, arith, refl}
use Rattle.std.proofs.lemmas.Iterator.{cases_from_any, YieldsList-from_range}
use Rattle.ring_area.specs.lowest.laws.Found.{anywhere}
use Rattle.auditing.specs.rings.Fan.{folds_at, ring_folds}
use Rattle.auditing.proofs.rings.ring_folds.Goals as goal

pub returns : goal.returns
unfolding ring_folds
returns c box bits e =
    let n = c.saturating_sub.result in
    let p = folds_at box bits c.args.vertices.now c.args.entries.now in
    rw c.saturating_sub.ensures at
    (anywhere p n c.any.result
    (cases_from_any _ _ c.any.result (λ k. p k ≡ true) (λ k. p k ≡ false) c.any.ensures.ran (YieldsList-from_range 0 n n refl (omega arith)) (λ x q k. search rules) (λ x q k. search rules)))
