-- `certifying::windows::greater` meets its contract.
use Rattle.certifying.specs.call.laws.Stages.{larger_second, larger_first}
use Rattle.certifying.proofs.windows.greater.Statement.{statement}
use Rattle.certifying.proofs.windows.greater.Tie as tie

returns : tie.Need-returns-then-x-y
returns c =
    let s = c in larger_second s.args.x s.args.y c.if-x-y.true

returns-2 : tie.Need-returns
returns-2 c =
    let s = c in larger_first s.args.x s.args.y c.if-x-y.false

pub greater_spec : {M : Type 1} → statement M
greater_spec =
    tie.close (tie.spec returns returns-2)
