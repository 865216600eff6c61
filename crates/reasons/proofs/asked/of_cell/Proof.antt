-- By cases on the two tests.
use mathlib.Core.Bool.{not}
use mathlib.Core.Path.{ap}
use Rattle.reasons.specs.Answer.{empty_answer}
use Rattle.reasons.specs.laws.Answer.{not_true, not_false}
use Rattle.reasons.proofs.asked.of_cell.Statement.{statement}
use Rattle.reasons.proofs.asked.of_cell.Tie as tie

returns : tie.Need-returns-then-not-empty
unfolding empty_answer
returns c = rw (not_true c.args.empty (ap not c.if-not-empty.true))

returns-2 : tie.Need-returns-then-used
unfolding empty_answer
returns-2 c = rw (not_false c.args.empty (ap not c.if-not-empty.false), c.if-used.true)

returns-3 : tie.Need-returns
unfolding empty_answer
returns-3 c = rw (not_false c.args.empty (ap not c.if-not-empty.false), c.if-used.false)

pub of_cell_spec : {M : Type 1} → statement M
of_cell_spec = tie.close (tie.spec returns returns-2 returns-3)
