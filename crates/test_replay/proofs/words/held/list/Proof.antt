-- `test_replay::words::held::list` meets its contract.
use mathlib.Core.Path.{◌∙◌}
use borrow.Author.Rules.{rules}
use Rattle.test_replay.specs.words.laws.Held.{list_says}
use Rattle.test_replay.proofs.words.held.list.Statement.{statement}
use Rattle.test_replay.proofs.words.held.list.Tie as tie

returns-4 : tie.Need-returns
returns-4 c =
    let at_count = c in
    let at_ended = at_count in
    let a = at_ended.args in
    list_says a.out.now a.b.now a.q a.number a.count a.ended c.after.result c.index.result
    c.holds.result at_ended.if-number-ne0.false at_ended.if-ended-ne1.false (at_count.if-count-word.false ∙ at_count.word.ensures)
    c.after.ensures c.index.ensures.0 c.holds.ensures

pub list_spec : {M : Type 1} → statement M
list_spec =
    tie.close
    (tie.spec (λ c. search rules) (λ c. search rules) (λ c κs. search rules) (λ c. search rules) (λ c κs. search rules)
    (λ c κs. search rules) (λ c κs. search rules) returns-4)
