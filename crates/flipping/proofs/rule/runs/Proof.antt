-- The second end is asked only where the first is the same.
use Rattle.flipping.specs.rule.laws.Tests.{starts_not, ends_or_not}
use Rattle.flipping.proofs.rule.runs.Statement.{statement}
use Rattle.flipping.proofs.rule.runs.Tie as tie

returns : tie.Need-returns-then-s-x
returns c = starts_not _ _ _ _ c.if-s-x.true

returns-2 : tie.Need-returns
returns-2 c = ends_or_not c.args.s c.args.t c.args.x c.args.y c.if-s-x.false

pub runs_spec : {M : Type 1} → statement M
runs_spec = tie.close (tie.spec returns returns-2)
