-- `cell_builder::placed::step_back` meets its contract: the two answers are the two cases of `previous_of`.
use native.Mathlib.Omega.{arith}
use borrow.Author.Rules.{rules}
use borrow.Author.Tests.{eq-eqb, ne_eqb}
use Rattle.cell_builder.specs.placed.Placed.{previous_of}
use Rattle.cell_builder.proofs.placed.step_back.Statement.{statement}
use Rattle.cell_builder.proofs.placed.step_back.Tie as tie

abbrev Entry : tie.After-wide-p → tie.Start
Entry w = w.before.before.before

add-result : tie.Need-overflow_add-result
add-result c =
    let w = c in
    omega (arith, w.wide-p.ensures, (Entry w.before).requires)

returns : tie.Need-returns-then-p-eq0
unfolding previous_of
returns c =
    let w = c in
    rw (← w.wide-p.ensures, eq-eqb _ _ c.if-p-eq0.true)

returns-2 : tie.Need-returns
unfolding previous_of
returns-2 c =
    let w = c in
    rw (← w.wide-p.ensures, ne_eqb _ _ c.if-p-eq0.false)

pub step_back_spec : {M : Type 1} → statement M
step_back_spec =
    tie.close
    (tie.spec (λ c. search rules) (λ c. search rules) (λ c κs. search rules) add-result returns (λ c. search rules) returns-2)
