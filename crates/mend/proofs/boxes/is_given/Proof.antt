-- `mend::boxes::is_given` meets its contract: by the length.
use mathlib.Core.Path.{sym}
use Rattle.mend.specs.boxes.laws.Option.{none_given, one_given}
use Rattle.mend.proofs.boxes.is_given.Statement.{statement}
use Rattle.mend.proofs.boxes.is_given.Tie as tie

returns : tie.Need-returns-then-option-eq0
returns c = sym (none_given c.args.option.now c.if-option-eq0.true)

returns-2 : tie.Need-returns
returns-2 c = sym (one_given c.args.option.now c.if-option-eq0.false)

pub is_given_spec : {M : Type 1} → statement M
is_given_spec = tie.close (tie.spec returns returns-2)
