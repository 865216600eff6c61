-- `cutting::border::any_undirected`: both answers of `any` by the test of the places.
use Rattle.std.proofs.Common.{◌≡◌, ℕ, true, false, length, rules, tests, arith, refl}
use Rattle.std.proofs.lemmas.Iterator.{cases_from_any, YieldsList-from_range}
use Rattle.cutting.specs.border.Border.{undirected_at}
use Rattle.cutting.specs.border.laws.Counting.{any_is}
use Rattle.cutting.proofs.border.any_undirected.Goals as goal

pub returns : goal.returns
returns c =
    let n = length c.args.hull.now in
    let p = undirected_at c.args.sites.now c.args.triangles.now c.args.hull.now c.args.table.now in
    any_is p n _
    (cases_from_any _ _ _ (λ (i : ℕ). p i ≡ true) (λ (i : ℕ). p i ≡ false) c.any.ensures.ran (YieldsList-from_range 0 n n refl (omega arith)) (λ x q k. search (rules, tests))
    (λ x q k. search (rules, tests)))
