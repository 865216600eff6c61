-- `reader::try_end` meets its contract: the room is tried first.
use mathlib.Core.Path.{sym, ◌∙◌}
use borrow.Author.Tests.{lt-ltb, le-ltb}
use Rattle.reader.specs.Calls.{end_call}
use Rattle.reader.specs.laws.Calls.{end_wide}
use borrow.Author.Rules.{rules}
use Rattle.reader.proofs.try_end.Statement.{statement}
use Rattle.reader.proofs.try_end.Tie as tie

returns : tie.Need-returns-then-state-lt-STATE_WORDS
unfolding end_call
returns c = rw (lt-ltb _ _ c.if-state-lt-STATE_WORDS.true, c.no_report.ensures)

returns-2 : tie.Need-returns
returns-2 c = c.end_all.ensures ∙ sym (end_wide c.args.state.now (le-ltb _ _ c.if-state-lt-STATE_WORDS.false))

pub try_end_spec : {M : Type 1} → statement M
try_end_spec =
    tie.close (tie.spec (λ c κs. search rules) returns (λ c κs. search rules) (λ c. search rules) returns-2)
