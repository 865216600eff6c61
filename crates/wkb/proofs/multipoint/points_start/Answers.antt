-- `wkb::multipoint::points_start` meets its contract: `all` over the points.
use Rattle.std.proofs.Common.{ℕ, rules, arith, refl, drop}
use Rattle.std.proofs.lemmas.Iterator.{cases_from_all, YieldsList-from_range}
use Rattle.wkb.specs.multipoint.Fields.{StartsAs, point_place}
use Rattle.wkb.specs.multipoint.laws.Answers.{all_say}
use Rattle.wkb.proofs.multipoint.points_start.Goals as goal

pub returns : goal.returns
returns c =
    let n = c.args.count in
    let P = λ (i : ℕ). StartsAs (drop (point_place i) c.args.file.now) 1 in
    all_say P n c.all.result
    (cases_from_all _ _ c.all.result P (λ i. P i → ⊥) c.all.ensures.ran (YieldsList-from_range 0 n n refl (omega arith)) (λ x q k. search rules) (λ x q k. search rules))
