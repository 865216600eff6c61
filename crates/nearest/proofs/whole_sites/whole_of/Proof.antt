-- The float is tried first, so that what is left without its fraction is a number of 64 bits.
use mathlib.Core.Bool.{not}
use Rattle.std.proofs.Common.{ap, ◌∙◌, w32, w64, rules}
use borrow.Author.Rules.{sfits_of}
use lib.Ieee.{of_bits, neg}
use mir.ValLaws.{to_z-of_z}
use Rattle.nearest.specs.whole_sites.Whole.{whole_kept}
use Rattle.nearest.specs.whole_sites.laws.Kept.{whole_low, whole_high, in_range, whole_is}
use Rattle.nearest.proofs.whole_sites.whole_of.Statement.{statement}
use Rattle.nearest.proofs.whole_sites.whole_of.Tie as tie

returns : tie.Need-returns-then-not-x
unfolding of_bits neg
returns c = whole_low c.args.x (ap not c.if-not-x.true)

returns-2 : tie.Need-returns-then-not-x-2
unfolding of_bits neg
returns-2 c = whole_high c.args.x (ap not c.if-not-x.false) (ap not c.if-not-x-2.true)

truncating-requires : tie.Need-truncating_f64_to_i64-requires
unfolding of_bits neg
truncating-requires c κs = in_range c.args.x (ap not c.if-not-x.false) (ap not c.if-not-x-2.false)

returns-3 : tie.Need-returns
unfolding of_bits neg
returns-3 c =
    let t = c.truncating_f64_to_i64 in
    let start = c in
    to_z-of_z w32 c.kept.result (sfits_of c.kept.type_inv) ∙ c.kept.ensures
    ∙ ap (λ z. whole_kept z start.args.x) (to_z-of_z w64 t.result (sfits_of t.type_inv) ∙ t.ensures)
    ∙ whole_is start.args.x (ap not c.if-not-x.false) (ap not c.if-not-x-2.false)

pub whole_of_spec : {M : Type 1} → statement M
whole_of_spec = tie.close (tie.spec returns returns-2 truncating-requires (λ c κs. search rules) returns-3)
