-- `audit::text::billionths` meets its contract: the tests of the definition.
use mathlib.Core.Bool.{not}
use mathlib.Core.Path.{ap}
use lib.Ieee.{of_bits, neg}
use Rattle.audit.specs.text.laws.Points.{not_above, not_below, in_range, below_most, at_most}
use Rattle.audit.proofs.text.billionths.Statement.{statement}
use Rattle.audit.proofs.text.billionths.Tie as tie

returns : tie.Need-returns-then-not-v
unfolding of_bits neg
returns c = not_above c.args.v (ap not c.if-not-v.true)

returns-2 : tie.Need-returns-then-not-v-2
unfolding of_bits neg
returns-2 c = not_below c.args.v (ap not c.if-not-v.false) (ap not c.if-not-v-2.true)

truncating-requires : tie.Need-truncating_f64_to_u64-n-requires
unfolding of_bits neg
truncating-requires c κs = in_range c.args.v (ap not c.if-not-v.false) (ap not c.if-not-v-2.false)

returns-3 : tie.Need-returns-then-n-lt-MOST
unfolding of_bits neg
returns-3 c =
    let test = c in
    below_most test.args.v (ap not test.if-not-v.false) (ap not test.if-not-v-2.false) c.truncating_f64_to_u64-n.ensures c.if-n-lt-MOST.true

returns-4 : tie.Need-returns
unfolding of_bits neg
returns-4 c =
    let test = c in
    at_most test.args.v (ap not test.if-not-v.false) (ap not test.if-not-v-2.false) c.truncating_f64_to_u64-n.ensures c.if-n-lt-MOST.false

pub billionths_spec : {M : Type 1} → statement M
billionths_spec = tie.close (tie.spec returns returns-2 truncating-requires returns-3 returns-4)
