-- `ring_area::rounded::used` meets its contract: the limbs that were passed are 0, and the one that is found is not.
use Rattle.std.proofs.Common.{◌≡◌, ◌+◌, ◌-◌, arith, subst}
use Rattle.ring_area.specs.long.Amount.{lifted}
use Rattle.ring_area.specs.long.laws.Lifted.{lifted_long}
use Rattle.ring_area.specs.rounded.Rounded.{UpTo}
use Rattle.ring_area.specs.rounded.laws.Limbs.{clear_found, clear_end}
use Rattle.ring_area.proofs.rounded.used.Goals as goal

pub overflow_add-result-then-limbs-i-ne0 : goal.overflow_add-result-then-limbs-i-ne0
overflow_add-result-then-limbs-i-ne0 c = omega (arith, c.requires, lifted_long c.args.from c.args.limbs.now)

pub returns-then-limbs-i-ne0 : goal.returns-then-limbs-i-ne0
returns-then-limbs-i-ne0 c =
    let i = c.loop-i.i in
    let e : c.args.from + i ≡ c.args.from + (i - 1 + 1) = omega arith in
    subst (UpTo (lifted c.args.from c.args.limbs.now)) e (clear_found c.loop-i.invariant _ (omega arith) c.if-limbs-i-ne0.true)

pub returns : goal.returns
returns c = clear_end c.loop-i.invariant c.args.from (omega arith)
