-- The coordinate is compared with both limits.
use Rattle.grid.specs.laws.Machine.{too_low, too_high, between}
use Rattle.grid.proofs.within.Statement.{statement}
use Rattle.grid.proofs.within.Tie as tie

returns : tie.Need-returns-then-v-ltminus8192
returns c = too_low c.args.v c.ranges.v c.if-v-ltminus8192.true

returns-2 : tie.Need-returns-then-v-gt8192
returns-2 c = too_high c.args.v c.ranges.v c.if-v-gt8192.true

returns-3 : tie.Need-returns
returns-3 c = between c.args.v c.ranges.v c.if-v-ltminus8192.false c.if-v-gt8192.false

pub within_spec : {M : Type 1} → statement M
within_spec = tie.close (tie.spec returns returns-2 returns-3)
