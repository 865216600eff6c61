-- The product is tried first, so that what is left without its fraction is a number of 64 bits.
use mathlib.Core.Bool.{not}
use mathlib.Core.Path.{ap}
use Rattle.std.proofs.Common.{◌∙◌, rules}
use lib.Ieee.{of_bits, neg}
use Rattle.nearest.specs.corners.laws.Cut.{low, high, in_range, cut_is}
use Rattle.nearest.proofs.corners.in_units.Statement.{statement}
use Rattle.nearest.proofs.corners.in_units.Tie as tie

returns : tie.Need-returns-then-not-y
unfolding of_bits neg
returns c =
    let s = c in
    low s.args.unit s.args.x (rw c.magnitude-m.ensures at (ap not c.if-not-y.true))

returns-2 : tie.Need-returns-then-not-y-2
unfolding of_bits neg
returns-2 c =
    let s = c in
    let m = c.magnitude-m.ensures in
    high s.args.unit s.args.x (rw m at (ap not c.if-not-y.false)) (rw m at (ap not c.if-not-y-2.true))

truncating-requires : tie.Need-truncating_f64_to_u64-requires
unfolding of_bits neg
truncating-requires c κs = in_range _ (ap not c.if-not-y.false) (ap not c.if-not-y-2.false)

returns-3 : tie.Need-returns
unfolding of_bits neg
returns-3 c =
    let s = c in
    let m = c.magnitude-m.ensures in
    let v = c.truncating_f64_to_u64.ensures in
    c.are_units.ensures ∙ rw (v, m) (cut_is s.args.unit s.args.x (rw m at (ap not c.if-not-y.false)) (rw m at (ap not c.if-not-y-2.false)))

pub in_units_spec : {M : Type 1} → statement M
in_units_spec =
    tie.close
    (tie.spec (λ c κs. search rules) (λ c. search rules) returns returns-2 truncating-requires (λ c κs. search rules) returns-3)
