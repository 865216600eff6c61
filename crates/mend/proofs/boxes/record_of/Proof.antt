-- `mend::boxes::record_of` meets its contract: by whether the option is given.
use mathlib.Core.Path.{sym}
use native.Mathlib.Omega.{arith}
use Rattle.mend.specs.boxes.laws.Option.{not_given}
use borrow.Author.Rules.{rules}
use Rattle.mend.proofs.boxes.record_of.Statement.{statement}
use Rattle.mend.proofs.boxes.record_of.Tie as tie

returns : tie.Need-returns-then-given
returns c = let r = c in let t = r in rw t.if-given.true r.record_by.ensures

returns-2 : tie.Need-returns
returns-2 c = rw c.if-given.false (sym (not_given c.args.word.now), omega arith)

pub record_of_spec : {M : Type 1} → statement M
record_of_spec = tie.close (tie.spec (λ c κs. search rules) (λ c. search rules) returns returns-2)
