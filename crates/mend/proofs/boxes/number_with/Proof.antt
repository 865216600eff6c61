-- `mend::boxes::number_with` meets its contract: by the record's length, by rule 3, and by the number.
use mathlib.Core.Path.{sym, ◌∙◌}
use Rattle.mend.specs.boxes.laws.Option.{number_none, number_kept, number_first, number_box}
use borrow.Author.Rules.{rules}
use Rattle.mend.proofs.boxes.number_with.Statement.{statement}
use Rattle.mend.proofs.boxes.number_with.Tie as tie

returns : tie.Need-returns-then-first-ne33
returns c = let a = c.args in sym (number_none a.first.now a.number c.if-first-ne33.true)

returns-2 : tie.Need-returns-then-keeps
returns-2 c =
    let k = c in
    let e = k in
    let a = e.args in
    sym (number_kept a.first.now a.number e.if-first-ne33.false (sym k.keeps.ensures ∙ c.if-keeps.true))

returns-3 : tie.Need-returns-then-number-eq-REFUSED_COUNT
returns-3 c =
    let k = c in
    let e = k in
    let a = e.args in
    sym (number_first a.first.now a.number e.if-first-ne33.false (sym k.keeps.ensures ∙ c.if-keeps.false) c.if-number-eq-REFUSED_COUNT.true)

returns-4 : tie.Need-returns
returns-4 c =
    let k = c in
    let e = k in
    let a = e.args in
    sym (number_box a.first.now a.number e.if-first-ne33.false (sym k.keeps.ensures ∙ c.if-keeps.false) c.if-number-eq-REFUSED_COUNT.false)

pub number_with_spec : {M : Type 1} → statement M
number_with_spec = tie.close (tie.spec returns (λ c κs. search rules) returns-2 returns-3 returns-4)
