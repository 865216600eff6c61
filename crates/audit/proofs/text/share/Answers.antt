-- `audit::text::share` meets its contract: the sign, where there is one, then the billionths.
use Rattle.std.proofs.Common.{sym, subst}
use lib.Ieee.{of_bits, neg}
use Rattle.base.specs.common.Binary64.{◌⊠◌}
use Rattle.printing.specs.parts.Text.{ascii}
use Rattle.octets.specs.Wrote.{HasRoom}
use Rattle.octets.specs.laws.Wrote.{fits_left, fits_then, wrote_then, wrote_as}
use Rattle.audit.specs.text.Share.{billion, billionths, pointed}
use Rattle.audit.specs.text.laws.Points.{billionths_most, share_below, share_above}
use Rattle.audit.proofs.text.share.Goals as goal

pub put-end-requires : goal.put-end-requires
unfolding neg of_bits
put-end-requires c =
    fits_left c.args.out.now c.args.at (ascii "-") ((pointed (billionths (neg (c.args.missing ⊠ billion)))))
    (subst (HasRoom c.args.out.now c.args.at) (share_below c.args.missing c.if-v.true) c.requires)

pub pointed-requires : goal.pointed-requires
unfolding neg of_bits
pointed-requires c =
    let room = subst (HasRoom c.args.out.now c.args.at) (share_below c.args.missing c.if-v.true) c.requires in
    rw c.billionths.ensures (billionths_most _, fits_then (ascii "-") ((pointed (billionths (neg (c.args.missing ⊠ billion))))) c.put-end.ensures room)

pub returns-then-v : goal.returns-then-v
unfolding neg of_bits
returns-then-v c =
    let digits = rw c.billionths.ensures at c.pointed.ensures in
    wrote_as (wrote_then {s = ascii "-"} {t = (pointed (billionths (neg (c.args.missing ⊠ billion))))} c.put-end.ensures digits) (sym (share_below c.args.missing c.if-v.true))

pub pointed-requires-2 : goal.pointed-requires-2
unfolding neg of_bits
pointed-requires-2 c =
    rw c.billionths-2.ensures (billionths_most _, subst (HasRoom c.args.out.now c.args.at) (share_above c.args.missing c.if-v.false) c.requires)

pub returns : goal.returns
unfolding neg of_bits
returns c =
    wrote_as {s = (pointed (billionths (c.args.missing ⊠ billion)))} (rw c.billionths-2.ensures at c.pointed-2.ensures) (sym (share_above c.args.missing c.if-v.false))
