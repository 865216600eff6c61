-- `ring_area::rounded::bits` meets its contract: 32 for each limb below the highest that is not 0, and the size of that one.
use mathlib.Core.Path.{sym, subst}
use native.Mathlib.Omega.{arith}
use lib.Count.{leading_le}
use borrow.Author.Rules.{rules}
use Rattle.ring_area.specs.long.Amount.{lifted}
use Rattle.ring_area.specs.rounded.Rounded.{UpTo}
use Rattle.ring_area.specs.rounded.laws.Limbs.{none_used, bits_used}
use Rattle.ring_area.proofs.rounded.bits.Statement.{statement}
use Rattle.ring_area.proofs.rounded.bits.Tie as tie

returns : tie.Need-returns-then-n-eq0
returns c =
    let l = lifted c.args.from c.args.limbs.now in
    sym (none_used l (subst (UpTo l) c.if-n-eq0.true c.used-n.ensures))

cast-zeros : tie.Need-overflow_cast-zeros
cast-zeros c = omega (arith, leading_le 64 c.limb.result)

sub-result : tie.Need-overflow_sub-result
sub-result c = omega (arith, leading_le 64 c.limb.result, c.if-n-eq0.false)

returns-2 : tie.Need-returns
returns-2 c =
    let s = c in
    bits_used (lifted s.args.from s.args.limbs.now) c.used-n.result c.limb.result c.used-n.ensures s.requires.0
    (omega (arith, c.if-n-eq0.false)) c.limb.ensures

pub bits_spec : {M : Type 1} → statement M
bits_spec =
    tie.close
    (tie.spec (λ c κs. search rules) returns (λ c. search rules) (λ c κs. search rules) cast-zeros (λ c. search rules)
    (λ c. search rules) sub-result returns-2)
