-- By cases on the question.
use borrow.Author.Rules.{rules}
use Rattle.reasons.specs.laws.Answer.{has_cell, about_answer}
use Rattle.reasons.proofs.asked.answer.Statement.{statement}
use Rattle.reasons.proofs.asked.answer.Tie as tie

about-requires : tie.Need-about-requires
about-requires c κs =
    let known = c in
    let start = known in
    let l = rw c.in-About.is at start.requires.1 in
    (l, has_cell start.requires.0 l)

between-requires : tie.Need-between-requires
between-requires c κs =
    let known = c in
    let start = known in
    (start.requires.0, rw c.in-Between.is at start.requires.1)

returns-2 : tie.Need-returns-in-About
returns-2 c =
    let given = c.in-About.is in
    let known = c in
    let start = known in
    rw given (about_answer start.requires.0 (rw given at start.requires.1) c.about.ensures)

returns-3 : tie.Need-returns-in-Between
returns-3 c = rw c.in-Between.is c.between.ensures

pub answer_spec : {M : Type 1} → statement M
answer_spec =
    tie.close
    (tie.spec (λ c. search rules) (λ c. search rules) about-requires (λ c. search rules) between-requires
    (λ c. search rules) returns-2 returns-3)
