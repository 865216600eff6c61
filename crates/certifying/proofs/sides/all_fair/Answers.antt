-- `certifying::sides::all_fair` meets its contract: each bucket is fair.
use Rattle.std.proofs.Common.{ℕ, rules, tests, arith, refl}
use Rattle.std.proofs.lemmas.Bool.{MatchBool-at_true}
use Rattle.std.proofs.lemmas.Iterator.{cases_from_all, YieldsList-from_range}
use Rattle.certifying.specs.sides.Chains.{laid_ends, FairIn}
use Rattle.certifying.specs.sides.laws.Fair.{buckets_all}
use Rattle.certifying.specs.laws.Ranges.{each_below}
use Rattle.certifying.proofs.sides.all_fair.Goals as goal

pub returns : goal.returns
returns c t =
    let b = c.args.bounds in
    let v = c.args.vertices.now in
    let ix = c.args.indexes.now in
    let n = c.args.count in
    let to = laid_ends c.args.work.now n in
    let fair = λ (m : ℕ). FairIn b v ix to n m in
    buckets_all b v ix to n
    (each_below fair n
    (MatchBool-at_true _ _ t
    (cases_from_all _ _ _ fair (λ _. Unit {0}) c.all.ensures.ran (YieldsList-from_range 0 n n refl (omega arith)) (λ x q k. search (rules, tests)) (λ x q k. tt))))
