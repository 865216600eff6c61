-- The two limits, then the float.
use Rattle.std.proofs.Common.{rules}
use Rattle.nearest.specs.whole_sites.laws.Kept.{kept_low, kept_high, cast_fits, kept_is, kept_not}
use Rattle.nearest.proofs.whole_sites.kept.Statement.{statement}
use Rattle.nearest.proofs.whole_sites.kept.Tie as tie

returns : tie.Need-returns-then-v-ltminus8192
returns c = kept_low c.args.v _ c.ranges.v c.if-v-ltminus8192.true

returns-2 : tie.Need-returns-then-v-gt8192
returns-2 c = kept_high c.args.v _ c.ranges.v c.if-v-ltminus8192.false c.if-v-gt8192.true

cast-w : tie.Need-overflow_cast-w
cast-w c = cast_fits c.args.v c.args.x c.ranges.v c.if-v-ltminus8192.false c.if-v-gt8192.false

returns-3 : tie.Need-returns-then-w-x
returns-3 c =
    let start = c in
    kept_is start.args.v start.args.x start.ranges.v c.if-v-ltminus8192.false c.if-v-gt8192.false c.if-w-x.true

returns-4 : tie.Need-returns
returns-4 c =
    let start = c in
    kept_not start.args.v start.args.x start.ranges.v c.if-v-ltminus8192.false c.if-v-gt8192.false c.if-w-x.false

pub kept_spec : {M : Type 1} → statement M
kept_spec = tie.close (tie.spec returns returns-2 cast-w (λ c. search rules) returns-3 returns-4)
