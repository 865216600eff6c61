-- `auditing::total::within` meets its contract: neither is over the other by more than the limit.
use Rattle.ring_area.specs.long.Amount.{amount}
use Rattle.auditing.specs.total.laws.Sums.{within_is}
use borrow.Author.Rules.{rules}
use Rattle.auditing.proofs.total.within.Statement.{statement}
use Rattle.auditing.proofs.total.within.Tie as tie

returns : tie.Need-returns
returns c =
    let at-over2 = c in
    let s = at-over2 in
    within_is (amount s.args.plus.now) (amount s.args.minus.now) s.args.limit.now at-over2.over-a.ensures at-over2.over-b.ensures
    c.less.ensures c.less-2.ensures

pub within_spec : {M : Type 1} → statement M
within_spec =
    tie.close
    (tie.spec (λ c κs. search rules) (λ c κs. search rules) (λ c. search rules) (λ c κs. search rules)
    (λ c. search rules) (λ c κs. search rules) returns)
