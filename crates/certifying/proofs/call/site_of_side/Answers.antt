-- `certifying::call::site_of_side` meets its contract: what `find` tells is the lowest.
use Rattle.std.proofs.Common.{◌≡◌, true, false, ℕ, ◌+◌, get_or, ltb, rules, tests}
use Rattle.std.proofs.lemmas.Iterator.{first_from_Range}
use Rattle.ring_area.specs.lowest.laws.Found.{found}
use Rattle.certifying.specs.call.Verdict.{site_of_side}
use Rattle.certifying.proofs.call.site_of_side.Goals as goal

pub returns : goal.returns
unfolding site_of_side
returns c =
    let p = λ (s : ℕ). ltb c.args.e (get_or c.args.offsets.now (s + 1) 0) in
    found p c.args.count c.find.result
    (first_from_Range _ _ _ c.find.result (λ k. p k ≡ true) (λ k. p k ≡ false) c.find.ensures.ran (λ x q k. search (rules, tests)) (λ x q k. search (rules, tests)))
    c.unwrap_or.ensures
